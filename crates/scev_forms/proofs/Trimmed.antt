-- Parts at the end that are 0 add nothing to a recurrence.
use Rattle.std.proofs.Common.{◌≡◌, ℕ, zero, suc, true, List, [], ◌∷◌, map, Option, Some, refl, sym, ap, ◌∙◌}
use Rattle.std.proofs.lemmas.Bool.{cond_both}
use Rattle.scev_base.specs.Iterated.{iterated}
use Rattle.rec_algebra.proofs.AlgebraLemmas.{value_of_single}
use Rattle.scev_tree.specs.Tree.{Tree, polynomial, no_terms, term}
use Rattle.scev_tree.specs.Value.{sum, tree_value}
use Rattle.scev_tree.proofs.Arithmetic.{IsBelow}
use Rattle.scev_forms.specs.Trees.{AreTreesOf}
use Rattle.scev_forms.specs.Outcome.{tested}
use Rattle.scev_forms.specs.Gather.{is_zero, before_others, without_zeros, trimmed}
use Rattle.scev_forms.specs.Sums.{recurrence, tested_parts}
use Rattle.scev_forms.proofs.Outcomes.{Gives, gives_next, gives_tested}
use Rattle.scev_forms.proofs.Kept.{plus_zero, number_semiring}
use Rattle.scev_forms.proofs.Atoms.{value_below}
use Rattle.scev_forms.proofs.Standing.{parts_value, PartsStand}

module _ (held : ℕ → Option ℕ) (turns : ℕ → ℕ) (w : ℕ) where
  -- the values of trees
  abbrev values_of : List Tree → List (Option ℕ)
  values_of trees = map (tree_value held turns) trees

  -- a tree that is told to be 0 has that value
  pub zero_value : (tree : Tree) → is_zero tree ≡ true → tree_value held turns tree ≡ Some 0
  zero_value (polynomial v no_terms) h = refl
  zero_value (polynomial v (term f n ts)) h = absurd cc

  -- one turn more of the iterated sum of a tree and the others, without it where it is 0 and stands alone
  one_turn_more : (turn : ℕ) (x : Option ℕ) (tree : Tree) (others : List Tree)
      → IsBelow w x
      → sum w (iterated (sum w) turn x (values_of (before_others tree others)))
      (iterated (sum w) turn (tree_value held turns tree) (values_of others))
      ≡ iterated (sum w) (suc turn) x (values_of (before_others tree others))
  unfolding iterated
  one_turn_more turn x tree (other ∷ others) below = refl
  one_turn_more turn x tree [] below =
      let value = tree_value held turns tree in
      cond_both (is_zero tree) [] (tree ∷ [])
      (λ trees. sum w (iterated (sum w) turn x (values_of trees)) (iterated (sum w) turn value [])
      ≡ iterated (sum w) (suc turn) x (values_of trees))
      (λ none.
      ap (λ y. sum w (iterated (sum w) turn x []) y)
      (value_of_single (number_semiring w) turn value ∙ zero_value tree none)
      ∙ ap (λ y. sum w y (Some 0)) (value_of_single (number_semiring w) turn x) ∙ plus_zero w x below)
      (λ _. refl)

  -- the iterated sum without them
  without_zeros_value : (turn : ℕ) (x : Option ℕ) (trees : List Tree)
      → IsBelow w x
      → AreTreesOf w trees
      → iterated (sum w) turn x (values_of trees) ≡ iterated (sum w) turn x (values_of (without_zeros trees))
  unfolding iterated
  without_zeros_value zero x trees below h = refl
  without_zeros_value (suc turn) x [] below h = refl
  without_zeros_value (suc turn) x (tree ∷ trees) below h =
      let value = tree_value held turns tree in
      ap (λ y. sum w y (iterated (sum w) turn value (values_of trees)))
      (without_zeros_value turn x (tree ∷ trees) below h)
      ∙ ap (sum w (iterated (sum w) turn x (values_of (without_zeros (tree ∷ trees)))))
      (without_zeros_value turn value trees (value_below held turns w tree h.0) h.1)
      ∙ one_turn_more turn x tree (without_zeros trees) below

  -- a tree before others that are canonical
  before_others_trees : (tree : Tree) (others : List Tree)
      → AreTreesOf w (tree ∷ others)
      → AreTreesOf w (before_others tree others)
  before_others_trees tree [] h = cond_both (is_zero tree) [] (tree ∷ []) (AreTreesOf w) (λ _. tt) (λ _. h)
  before_others_trees tree (other ∷ others) h = h

  -- all of them
  without_zeros_trees : (trees : List Tree) → AreTreesOf w trees → AreTreesOf w (without_zeros trees)
  without_zeros_trees [] h = tt
  without_zeros_trees (tree ∷ trees) h =
      before_others_trees tree (without_zeros trees) (h.0, without_zeros_trees trees h.1)

  -- those of a recurrence
  trimmed_trees : (trees : List Tree) → AreTreesOf w trees → AreTreesOf w (trimmed trees)
  trimmed_trees [] h = tt
  trimmed_trees (first ∷ trees) h = (h.0, without_zeros_trees trees h.1)

  -- the value of a recurrence without them
  pub trimmed_value : (l : ℕ) (trees : List Tree) → AreTreesOf w trees
      → parts_value held turns w l trees ≡ parts_value held turns w l (trimmed trees)
  trimmed_value l [] h = refl
  trimmed_value l (first ∷ trees) h =
      without_zeros_value (turns l) (tree_value held turns first) trees (value_below held turns w first h.0) h.1

  -- parts stand for the same without them
  pub trimmed_stand : (l : ℕ) (x : Option ℕ) (trees : List Tree)
      → PartsStand held turns w l x trees
      → PartsStand held turns w l x (trimmed trees)
  trimmed_stand l x trees h = (trimmed_trees trees h.0, λ n e. sym (trimmed_value l trees h.0) ∙ h.1 n e)

  -- what holds of parts holds once the recurrence that they are has been looked at
  pub gives_tested_parts : (P : List Tree → Type 0) (l : ℕ) (trees : List Tree)
      → P trees
      → Gives P (tested_parts w l trees)
  gives_tested_parts P l trees h =
      gives_next (λ _. Unit {0}) P (tested (recurrence w l trees)) _
      (gives_tested (λ _. Unit {0}) (recurrence w l trees) tt) (λ _ _. h)
