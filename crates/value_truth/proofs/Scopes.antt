-- Where a value is available, what its expression may name is available too.
use Rattle.std.proofs.Common.{◌≡◌, ℕ, ◌<◌, List, ◌∷◌, Contains, sym, subst, inl, inr}
use Rattle.std.proofs.Common.{arith}
use Rattle.scev_base.specs.declared.ids.BlockId.{BlockId}
use Rattle.ir_model.specs.declared.function.Function.{Function}
use Rattle.ir_model.specs.Walks.{Trail}
use Rattle.ir_rules.specs.Uses.{HasPassed}
use Rattle.ssa_check.specs.Checked.{Dominates}
use Rattle.ssa_check.specs.declared.definitions.Definition.TheVariants.{At}
use Rattle.ssa_check.specs.Tables.{definition_of}
use Rattle.ssa_check.proofs.Elements.{contains_later}
use Rattle.ssa_check.proofs.Dominance.{part_before}
use Rattle.loop_regions.specs.Loops.{Loop}
use Rattle.scev_tree.specs.declared.kind.Kind.{Kind}
use Rattle.scev_tree.specs.declared.kind.Kind.TheVariants as kind
use Rattle.scev_tree.specs.Tree.{Tree}
use Rattle.tree_names.specs.Names.{HasOnly}
use Rattle.tree_names.proofs.Invariant.{only_of_stronger}
use Rattle.value_truth.specs.Available.{IsAvailable, MayName, NamesItself, IsInScope}
use Rattle.value_truth.proofs.FirstArrival.{passed_at}
use Rattle.value_truth.proofs.StaysTrue.{defined_or_not}

-- what was passed before a block of a walk was entered, or in it, is passed behind the block
passed_later : (f : Function) (u : ℕ) (before later : List ℕ) (a b j index : ℕ) → HasPassed f u before a j
    → ((c : ℕ) → Contains (a ∷ before) c → Contains later c) → HasPassed f u later b index
passed_later f u before later a b j index (inl param) within = inl param
passed_later f u before later a b j index (inr (at, i, there, inl earlier)) within =
    inr (at, i, there, inl (within at.0 (contains_later a before at.0 earlier)))
passed_later f u before later a b j index (inr (at, i, there, inr here)) within =
    inr (at, i, there, inl (within at.0 (0, omega arith, sym here.0)))

-- in one block what is passed at an index is passed at a later one
passed_further : (f : Function) (u : ℕ) (before : List ℕ) (b j index : ℕ) → j < index → HasPassed f u before b j
    → HasPassed f u before b index
passed_further f u before b j index less (inl param) = inl param
passed_further f u before b j index less (inr (at, i, there, inl earlier)) = inr (at, i, there, inl earlier)
passed_further f u before b j index less (inr (at, i, there, inr here)) =
    inr (at, i, there, inr (here.0, omega (arith, here.1, less)))

module _ (f : Function) (loops : List Loop) (v x b index : ℕ) (there : IsAvailable f x b index) where
  module _ (d : BlockId) (i : ℕ) (is : definition_of f x ≡ At d i) where
    further : (u : ℕ) → IsAvailable f u d.0 i → IsAvailable f u b index
    further u available before trail =
        elim (passed_at f x d i is before b index (there before trail)) [
          | inl earlier ↦
              let part = part_before f trail d.0 earlier in
              passed_later f u part.before before d.0 b i index (available part.before part.is) part.within
          | inr here ↦
              let own = subst (λ (a : ℕ). Trail f (a ∷ before)) (sym here.0) trail in
              passed_further f u before b i index here.1
              (subst (λ (a : ℕ). HasPassed f u before a i) here.0 (available before own))
        ]

    dominates_further : (h : ℕ) → Dominates f h d.0 → Dominates f h b
    dominates_further h dominates before trail =
        elim (passed_at f x d i is before b index (there before trail)) [
          | inl earlier ↦
              let part = part_before f trail d.0 earlier in
              contains_later b before h (part.within h (dominates part.before part.is))
          | inr here ↦
              subst (λ (a : ℕ). Contains (a ∷ before) h) here.0
              (dominates before (subst (λ (a : ℕ). Trail f (a ∷ before)) (sym here.0) trail))
        ]

    named : (k : Kind) → MayName f loops x d.0 i k → MayName f loops v b index k
    named (kind.Rec l) (loop, at, dominates) = (loop, at, dominates_further loop.header dominates)
    named (kind.Leaf register home) (inl own) = inr (subst (λ (u : ℕ). IsAvailable f u b index) (sym own) there)
    named (kind.Leaf register home) (inr available) = inr (further register.0 available)
    named _ may = may

  itself : (k : Kind) → NamesItself x k → MayName f loops v b index k
  itself (kind.Rec l) may = absurd may
  itself (kind.Leaf register home) may = inr (subst (λ (u : ℕ). IsAvailable f u b index) (sym may) there)
  itself _ may = may

  pub names_further : (tree : Tree) → IsInScope f loops x tree → HasOnly (MayName f loops v b index) tree
  names_further tree scope =
      elim (defined_or_not (definition_of f x)) [
        | inl (d, i, is) ↦
            only_of_stronger (MayName f loops x d.0 i) (MayName f loops v b index) (named d i is) tree (scope.at d i is)
        | inr bare ↦ only_of_stronger (NamesItself x) (MayName f loops v b index) itself tree (scope.bare bare)
      ]
