-- A first tree that is 0 is alone.
use Rattle.std.proofs.Common.{◌≡◌, ℕ, ◌≤◌, true, if◌then◌else◌, eqb, List, [], ◌∷◌, length, get_or}
use Rattle.std.proofs.Common.{Option, None, Some, refl, sym, ap, ◌∙◌, subst, arith}
use Rattle.std.proofs.lemmas.Bool.{eqb-true}
use Rattle.std.specs.Option.{option_eq}
use Rattle.scev_base.specs.declared.ids.ExprId.{ExprId}
use Rattle.scev_tree.specs.Tree.{Tree, polynomial, no_terms, term, no_factors}
use Rattle.scev_tree.specs.Canonical.{IsCanonical}
use Rattle.scev_arena.specs.declared.node.Node.{Node}
use Rattle.scev_arena.specs.Meaning.{tree_of}
use Rattle.scev_arena.specs.Standing.{IsArena}
use Rattle.scev_forms.specs.Gather.{is_zero}
use Rattle.scev_forms.specs.Atoms.{number_of}
use Rattle.scev_forms.specs.Minima.{from_zero}
use Rattle.scev_sums.specs.Answers.{AreAt, AreTreesOfAt, trees_at}
use Rattle.scev_sums.proofs.Making.{canonical_at}

-- a canonical tree that is the number 0
zero_is : (tree : Tree) → IsCanonical tree → number_of tree ≡ Some 0 → is_zero tree ≡ true
zero_is (polynomial w no_terms) canonical e = refl
zero_is (polynomial w (term no_factors n no_terms)) canonical e =
    let none : n ≡ 0 = cc e in
    absurd (omega (arith, canonical.2))
zero_is (polynomial w _) canonical e = absurd cc

-- a number that is found by its test
pub found_number : (o : Option ℕ) (n : ℕ) → option_eq eqb o (Some n) ≡ true → o ≡ Some n
found_number None n h = absurd cc
found_number (Some m) n h = ap Some (eqb-true m n h)

module _ (nodes : List Node) (w : ℕ) where
  -- it alone
  pub zero_alone : (ids : List ExprId) (other id : ExprId) (put : List ExprId) → IsArena nodes
      → AreTreesOfAt nodes w ids
      → 1 ≤ length ids
      → id ≡ get_or ids 0 other
      → put ≡ id ∷ []
      → number_of (tree_of nodes id) ≡ Some 0
      → AreAt nodes w put (from_zero (trees_at nodes ids))
  zero_alone [] other id put arena hs some first is zero = absurd (omega arith)
  zero_alone (x ∷ ids) other id put arena hs some first is zero =
      let whole : put ≡ x ∷ [] = is ∙ ap (λ y. y ∷ []) first in
      let number = ap (λ y. number_of (tree_of nodes y)) (sym first) ∙ zero in
      let none = zero_is (tree_of nodes x) (canonical_at nodes w x arena hs.0).1 number in (
        subst (AreTreesOfAt nodes w) (sym whole) (hs.0, tt),
        ap (trees_at nodes) whole
            ∙ sym (ap (λ b. if b then tree_of nodes x ∷ [] else tree_of nodes x ∷ trees_at nodes ids) none),
      )
