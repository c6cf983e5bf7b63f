-- The first place of some sites at which what is named isn't defined.
use Rattle.std.proofs.Common.{◌≡◌, ℕ, ◌+◌, ◌<◌, ◌≤◌, true, false, List, [], ◌∷◌, ◌++◌, map, length, get_or, drop, Some}
use Rattle.std.proofs.Common.{None, slice_get, refl, sym, ap, ◌∙◌}
use Rattle.std.specs.Prelude.{nat_lt, slice_index_or}
use Rattle.std.specs.List.{flat_map}
use Rattle.std.specs.Option.{option_or}
use Rattle.std.proofs.lemmas.Grind.{flat_map-append}
use Rattle.std.proofs.lemmas.List.{drop_more, drop_all}
use Rattle.std.proofs.lemmas.List.Concat.{flat_map_single}
use Rattle.ir_model.specs.declared.op.Case.{Case}
use Rattle.ir_model.specs.declared.op.Operand.{Operand}
use Rattle.ir_model.specs.declared.op.PhiEntry.{PhiEntry}
use Rattle.ir_model.specs.declared.rule.Place.{Place}
use Rattle.ir_model.specs.declared.rule.Place.TheVariants.{BlockAt, UseIn}
use Rattle.ir_model.specs.Sites.{Site, operand_sites, entry_sites, UsesValue, UsesBlock, UsesGlobal}
use Rattle.ir_check.specs.declared.undefined.Scope.{Scope}
use Rattle.ir_check.specs.Undefined.{undefined_site, first_at}
use Rattle.ir_check.proofs.FirstPlaces.{first-append, rest_at}

-- ---- one site, none and two lists

pub at_none : (scope : Scope) → first_at scope [] ≡ None
unfolding first_at
at_none scope = refl

pub at_both : (scope : Scope) (xs ys : List Site)
    → first_at scope (xs ++ ys) ≡ option_or (first_at scope xs) (first_at scope ys)
unfolding first_at
at_both scope xs ys =
    let f = undefined_site scope.defined.now scope.globals scope.block scope.own in
    ap (λ places. slice_get places 0) (flat_map-append f xs ys) ∙ first-append (flat_map f xs) (flat_map f ys)

pub at_more : (scope : Scope) (x : Site) (xs : List Site)
    → first_at scope (x ∷ xs) ≡ option_or (first_at scope (x ∷ [])) (first_at scope xs)
at_more scope x xs = at_both scope (x ∷ []) xs

at_cases : (scope : Scope) (cases : List Case)
    → first_at scope (map (λ (c : Case). UsesBlock c.to.0) cases)
    ≡ first_at scope (flat_map (λ (c : Case). UsesBlock c.to.0 ∷ []) cases)
at_cases scope cases = ap (first_at scope) (sym (flat_map_single (λ (c : Case). UsesBlock c.to.0) cases))

pub at_switch : (scope : Scope) (value : Operand) (other : ℕ) (cases : List Case)
    → first_at scope (operand_sites value ++ (UsesBlock other ∷ map (λ (c : Case). UsesBlock c.to.0) cases))
    ≡ option_or (first_at scope (operand_sites value)) (option_or (first_at scope (UsesBlock other ∷ []))
    (first_at scope (flat_map (λ (c : Case). UsesBlock c.to.0 ∷ []) cases)))
at_switch scope value other cases =
    let sites = map (λ (c : Case). UsesBlock c.to.0) cases in
    at_both scope (operand_sites value) (UsesBlock other ∷ sites)
    ∙ ap (option_or (first_at scope (operand_sites value)))
    (at_more scope (UsesBlock other) sites
    ∙ ap (option_or (first_at scope (UsesBlock other ∷ []))) (at_cases scope cases))

module _ (scope : Scope) (id : ℕ) where
  pub value_known : slice_index_or scope.defined.now.values id false ≡ true → first_at scope (UsesValue id ∷ []) ≡ None
  unfolding first_at
  value_known is = simp is

  pub value_unknown : slice_index_or scope.defined.now.values id false ≡ false
      → first_at scope (UsesValue id ∷ []) ≡ Some (UseIn (record { 0 = id }) scope.block)
  unfolding first_at
  value_unknown is = simp is

  pub block_known : slice_index_or scope.defined.now.blocks id false ≡ true → first_at scope (UsesBlock id ∷ []) ≡ None
  unfolding first_at
  block_known is = simp is

  pub block_unknown : slice_index_or scope.defined.now.blocks id false ≡ false
      → first_at scope (UsesBlock id ∷ []) ≡ Some (BlockAt (record { 0 = id }))
  unfolding first_at
  block_unknown is = simp is

  pub global_known : nat_lt id scope.globals ≡ true → first_at scope (UsesGlobal id ∷ []) ≡ None
  unfolding first_at
  global_known is = simp is

  pub global_unknown : nat_lt id scope.globals ≡ false → first_at scope (UsesGlobal id ∷ []) ≡ Some scope.own
  unfolding first_at
  global_unknown is = simp is

pub ruleset site_lists = (at_none, at_both, at_more)

pub ruleset operand_steps = (at_none, value_known, value_unknown, global_known, global_unknown)

pub ruleset target_steps = (block_known, block_unknown)

-- ---- a walk of a list

module _ {X : Type 0} (f : X → List Site) (xs : List X) (i : ℕ) (scope : Scope) where
  module _ (x : X) (within : i < length xs) (is : x ≡ get_or xs i x) where
    at_next : first_at scope (flat_map f (drop i xs))
        ≡ option_or (first_at scope (f x)) (first_at scope (flat_map f (drop (i + 1) xs)))
    at_next =
        ap (λ rest. first_at scope (flat_map f rest)) (rest_at xs i x within is)
        ∙ at_both scope (f x) (flat_map f (drop (i + 1) xs))

    pub at_found : (at : Place) → first_at scope (f x) ≡ Some at → first_at scope (flat_map f (drop i xs)) ≡ Some at
    at_found at found = at_next ∙ ap (λ o. option_or o (first_at scope (flat_map f (drop (i + 1) xs)))) found

    pub at_behind : first_at scope (f x) ≡ None
        → first_at scope (flat_map f (drop i xs)) ≡ first_at scope (flat_map f (drop (i + 1) xs))
    at_behind nothing = at_next ∙ ap (λ o. option_or o (first_at scope (flat_map f (drop (i + 1) xs)))) nothing

  pub at_end : length xs ≤ i → first_at scope (flat_map f (drop i xs)) ≡ None
  at_end past = ap (λ rest. first_at scope (flat_map f rest)) (drop_all i xs past) ∙ at_none scope

-- one entry more, wherever the entry itself is read
pub at_entry : (scope : Scope) (entries : List PhiEntry) (i : ℕ) (d : PhiEntry) → i < length entries
    → (first_at scope (entry_sites (get_or entries i d)) ≡ first_at scope (entry_sites (get_or entries i d)))
    × (first_at scope (flat_map entry_sites (drop i entries))
    ≡ option_or (first_at scope (entry_sites (get_or entries i d)))
    (first_at scope (flat_map entry_sites (drop (i + 1) entries))))
at_entry scope entries i d within = (
  refl,
  ap (λ rest. first_at scope (flat_map entry_sites rest)) (drop_more entries i d within)
      ∙ at_both scope (entry_sites (get_or entries i d)) (flat_map entry_sites (drop (i + 1) entries)),
)
