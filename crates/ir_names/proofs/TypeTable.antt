-- Tables of names and types, entry by entry.
use Rattle.std.proofs.Common.{◌≡◌, ℕ, zero, suc, ◌<◌, List, [], ◌∷◌, Option, Some, None, length, map, slice_get, unwrap_or, refl, sym, ap, ◌∙◌, arith}
use Rattle.std.specs.Option.{option_and_then, option_map}
use Rattle.std.proofs.lemmas.List.{length-map}
use Rattle.std.proofs.lemmas.Option.{slice_get-map, slice_get_within, same_Some}
use Rattle.ir_model.specs.declared.types.IrType.{IrType}
use Rattle.ir_model.specs.declared.types.IrType.TheVariants.{Void}
use Rattle.ir_model.specs.declared.function.Param.{Param}
use Rattle.ir_model.specs.declared.function.Block.{Block}
use Rattle.ir_model.specs.declared.function.ValueInfo.{ValueInfo}
use Rattle.ir_model.specs.Defined.{HasTypes, type_of}
use Rattle.ir_names.specs.Kinds.{AreTypesBy, first_type}

module _ {A B C : Type 0} (f : A → Option B) (g : C → B) where
  joined : (o : Option A) → option_and_then f o ≡ option_and_then (λ b. b) (option_map f o)
  joined None = refl
  joined (Some a) = refl

  joined_some : (ys : List C) (v : ℕ) → option_and_then (λ b. b) (slice_get (map (λ y. Some (g y)) ys) v)
      ≡ slice_get (map g ys) v
  joined_some [] v = refl
  joined_some (y ∷ ys) zero = refl
  joined_some (y ∷ ys) (suc v) = joined_some ys v

  -- A table in which each entry has a name.
  pub names_of : (xs : List A) (ys : List C) → map f xs ≡ map (λ y. Some (g y)) ys → (v : ℕ)
      → option_and_then f (slice_get xs v) ≡ slice_get (map g ys) v
  names_of xs ys e v =
      joined (slice_get xs v) ∙ ap (option_and_then (λ b. b))
      (sym (slice_get-map f xs v) ∙ ap (λ zs. slice_get zs v) e) ∙ joined_some ys v

abbrev known : Option IrType → IrType
known kind = unwrap_or kind Void

abbrev kind_of : ValueInfo → IrType
kind_of info = info.kind

-- Each entry has the type of its value's first definition.
pub types_of : (params : List Param) (blocks : List Block) (table : List ValueInfo) (kinds : List (Option IrType))
    → map kind_of table ≡ map known kinds → AreTypesBy kinds (first_type params blocks) → HasTypes params blocks table
unfolding type_of
types_of params blocks table kinds e are v info at =
    let kind : slice_get (map known kinds) v ≡ Some info.kind = ap (λ ks. slice_get ks v) (sym e)
    ∙ slice_get-map kind_of table v ∙ ap (option_map kind_of) at in
    let within : v < length kinds = omega (arith, slice_get_within _ v _ kind, length-map kinds known) in
    let first : slice_get (map known kinds) v ≡ Some (unwrap_or (first_type params blocks v) Void) =
    slice_get-map known kinds v ∙ ap (option_map known) (are v within) in
    same_Some _ _ (sym kind ∙ first)
