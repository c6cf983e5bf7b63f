-- An integer's own name has the number that its register holds.
use Rattle.std.proofs.Common.{◌≡◌, ℕ, ◌<◌, ◌^◌, true, Option, Some, refl, sym, ap, ◌∙◌, subst, inl, inr}
use Rattle.std.proofs.Math.Nat.{mod-eq_of_lt}
use Rattle.std.proofs.lemmas.Bool.{ltb-true}
use Rattle.scev_base.specs.declared.ids.LoopId.{LoopId}
use Rattle.ir_model.specs.declared.types.IrType.{IrType}
use Rattle.ir_model.specs.declared.types.IrType.TheVariants.{Int}
use Rattle.ir_meaning.specs.declared.value.Value.{Value}
use Rattle.ir_meaning.specs.declared.value.Value.TheVariants as value
use Rattle.ir_meaning.specs.Values.{is_of_type}
use Rattle.scev_tree.specs.declared.kind.Kind.TheVariants as kind
use Rattle.scev_tree.specs.Tree.{Tree, of_atom, atom, no_parts}
use Rattle.scev_tree.specs.Value.{tree_value}
use Rattle.scev_forms.proofs.Atoms.{of_atom_value}
use Rattle.value_truth.specs.Truth.{Denotes, number_of}

-- a value of the type is poison or a number of w bits
typed_denotes : (w : ℕ) (x : Value) (y : Option ℕ) → is_of_type (Int w) x ≡ true
    → ((n : ℕ) → n < 2 ^ w → x ≡ value.Number n → y ≡ Some n) → Denotes (Some x) y
typed_denotes w (value.Number n) y typed told = inr (n, refl, told n (ltb-true n (2 ^ w) typed) refl)
typed_denotes w value.Poison y typed told = inl refl
typed_denotes w (value.Pointer block offset) y typed told = absurd cc
typed_denotes w value.Null y typed told = absurd cc

pub name_denotes : (held : ℕ → Option Value) (turns : ℕ → ℕ) (v w : ℕ) (home : Option LoopId) (type : IrType)
    (x : Value) → held v ≡ Some x → is_of_type type x ≡ true → type ≡ Int w
    → Denotes (held v)
    (tree_value (λ u. number_of (held u)) turns (of_atom w (atom (kind.Leaf (record { 0 = v }) home) w no_parts)))
name_denotes held turns v w home type x set typed is =
    let tree : Tree = of_atom w (atom (kind.Leaf (record { 0 = v }) home) w no_parts) in
    let numbers : ℕ → Option ℕ = λ u. number_of (held u) in
    subst (λ (o : Option Value). Denotes o (tree_value numbers turns tree)) (sym set)
    (typed_denotes w x (tree_value numbers turns tree) (subst (λ (t : IrType). is_of_type t x ≡ true) is typed)
    (λ n small number.
    of_atom_value numbers turns w (atom (kind.Leaf (record { 0 = v }) home) w no_parts) n
    (ap number_of set ∙ ap (λ (y : Value). number_of (Some y)) number)
    ∙ ap Some (mod-eq_of_lt small)))
