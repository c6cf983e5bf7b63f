-- What an expression names is kept, and so is what it denotes.
use Rattle.std.proofs.Common.{◌≡◌, ◌⊎◌, ℕ, List, Option, Some, slice_get, refl, sym, ap, ◌∙◌, subst, inl}
use Rattle.scev_base.specs.declared.ids.BlockId.{BlockId}
use Rattle.ir_model.specs.declared.function.Function.{Function}
use Rattle.ir_meaning.specs.declared.value.Value.{Value}
use Rattle.ir_meaning.specs.State.{State}
use Rattle.ssa_check.specs.Checked.{Dominates}
use Rattle.loop_regions.specs.Loops.{Loop}
use Rattle.loop_regions.specs.Turns.{turns}
use Rattle.scev_tree.specs.declared.kind.Kind.{Kind}
use Rattle.scev_tree.specs.declared.kind.Kind.TheVariants as kind
use Rattle.scev_tree.specs.Tree.{Tree}
use Rattle.tree_names.specs.Names.{HasOnly, IsSame}
use Rattle.tree_names.proofs.Invariant.{only_of_stronger}
use Rattle.tree_names.proofs.Values.{tree_same}
use Rattle.value_truth.specs.Available.{IsAvailable, MayName, NamesItself}
use Rattle.value_truth.specs.Truth.{Denotes, number_of, value_at, Holds}

module _ (f : Function) (loops : List Loop) (v : ℕ) (tree : Tree) (s t : State) where
  -- what all kinds of names have in common at two states
  abbrev SameThere : Kind → Type 0
  SameThere = IsSame (λ u. number_of (s.registers u)) (λ u. number_of (t.registers u)) (turns loops s.trail)
      (turns loops t.trail)

  -- with the same names the expression has the same value
  holds_with : HasOnly SameThere tree → s.registers v ≡ t.registers v → Holds loops s v tree → Holds loops t v tree
  holds_with only own holds =
      let same : value_at loops s tree ≡ value_at loops t tree =
      tree_same (λ u. number_of (s.registers u)) (λ u. number_of (t.registers u)) (turns loops s.trail)
      (turns loops t.trail) tree only in
      subst (λ (o : Option ℕ). Denotes (t.registers v) o) same
      (subst (λ (x : Option Value). Denotes x (value_at loops s tree)) own holds)

  -- of a value that an instruction defines
  module _ (d : BlockId) (i : ℕ) (scope : HasOnly (MayName f loops v d.0 i) tree)
      (registers : (u : ℕ) → (u ≡ v) ⊎ IsAvailable f u d.0 i → s.registers u ≡ t.registers u)
      (same_turns : (l : ℕ) (loop : Loop) → slice_get loops l ≡ Some loop → Dominates f loop.header d.0
      → turns loops s.trail l ≡ turns loops t.trail l) where
    named : (k : Kind) → MayName f loops v d.0 i k → SameThere k
    named (kind.Rec l) (loop, at, dominates) = same_turns l.0 loop at dominates
    named (kind.Leaf register home) may = ap number_of (registers register.0 may)
    named _ may = may

    pub holds_on : Holds loops s v tree → Holds loops t v tree
    holds_on =
        holds_with (only_of_stronger (MayName f loops v d.0 i) SameThere named tree scope) (registers v (inl refl))

  -- of a value that none defines
  module _ (scope : HasOnly (NamesItself v) tree) (own : s.registers v ≡ t.registers v) where
    itself : (k : Kind) → NamesItself v k → SameThere k
    itself (kind.Rec l) may = absurd may
    itself (kind.Leaf register home) may =
        ap (λ (u : ℕ). number_of (s.registers u)) may ∙ ap number_of own
        ∙ sym (ap (λ (u : ℕ). number_of (t.registers u)) may)
    itself _ may = may

    pub bare_holds_on : Holds loops s v tree → Holds loops t v tree
    bare_holds_on = holds_with (only_of_stronger (NamesItself v) SameThere itself tree scope) own
