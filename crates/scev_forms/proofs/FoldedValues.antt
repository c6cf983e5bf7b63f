-- Minima of several trees, formed from the left, have the minimum of all values; so do sequential minima.
use Rattle.std.proofs.Common.{◌≡◌, ℕ, ◌<◌, List, [], ◌∷◌, Option, refl, sym, ap, ◌∙◌}
use Rattle.rec_algebra.proofs.AlgebraLemmas.{Each}
use Rattle.scev_tree.specs.declared.kind.Kind.{Kind}
use Rattle.scev_tree.specs.Tree.{Tree}
use Rattle.scev_tree.specs.Value.{lifted, joined, least_in_sequence}
use Rattle.scev_tree.proofs.Arithmetic.{IsBelow}
use Rattle.scev_forms.specs.Minima.{IsMinimum, chosen, tree_minimum, tree_sequence}
use Rattle.scev_forms.specs.Turns.{minimum_of_all, sequence_of_all}
use Rattle.scev_forms.proofs.Outcomes.{Gives, gives_next}
use Rattle.scev_forms.proofs.Kept.{keeps_same}
use Rattle.scev_forms.proofs.Choices.{kind_chooses}
use Rattle.scev_forms.proofs.Minima.{chosen_below, chosen_grouped}
use Rattle.scev_forms.proofs.Sequences.{chain, chain_grouped, least_first}
use Rattle.scev_forms.proofs.Supposed.{StandsIf, AllStandIf, formed_kept_if, minimum_if, sequence_if}

-- the least in a sequence, with the first two taken together
sequence_grouped : (x y : Option ℕ) (ys : List (Option ℕ))
    → least_in_sequence (x ∷ y ∷ ys) ≡ least_in_sequence (chain x y ∷ ys)
sequence_grouped x y [] = least_first x y []
sequence_grouped x y (z ∷ zs) =
    least_first x y (z ∷ zs) ∙ ap (chain x) (least_first y z zs)
    ∙ sym (chain_grouped x y (least_in_sequence (z ∷ zs)))
    ∙ sym (least_first (chain x y) z zs)

module _ (held : ℕ → Option ℕ) (turns : ℕ → ℕ) (P : Type 0) (w : ℕ) (some : 0 < w) where
  -- ---- minima and maxima

  module _ (k : Kind) (is : IsMinimum k) where
    -- the one of several numbers is below
    joined_below : (x : Option ℕ) (xs : List (Option ℕ))
        → IsBelow w x
        → Each (IsBelow w) xs
        → IsBelow w (joined (chosen k w) (x ∷ xs))
    joined_below x [] h hs = h
    joined_below x (y ∷ ys) h hs =
        chosen_below held turns k w (kind_chooses k w is some) x (joined (chosen k w) (y ∷ ys)) h
        (joined_below y ys hs.0 hs.1)

    -- the one of several numbers, with the first two taken together
    joined_grouped : (x y : Option ℕ) (ys : List (Option ℕ))
        → IsBelow w x
        → Each (IsBelow w) (y ∷ ys)
        → joined (chosen k w) (x ∷ y ∷ ys) ≡ joined (chosen k w) (lifted (chosen k w) x y ∷ ys)
    joined_grouped x y [] h hs = refl
    joined_grouped x y (z ∷ zs) h hs =
        sym (chosen_grouped held turns k w (kind_chooses k w is some) x y (joined (chosen k w) (z ∷ zs)) h hs.0
        (joined_below z zs hs.1.0 hs.1.1))

    -- a minimum or a maximum of several trees
    pub minimum_of_all_if : (x : Option ℕ) (xs : List (Option ℕ)) (tree : Tree) (trees : List Tree)
        → IsBelow w x
        → Each (IsBelow w) xs
        → StandsIf held turns P w x tree
        → AllStandIf held turns P w xs trees
        → Gives (StandsIf held turns P w (joined (chosen k w) (x ∷ xs))) (minimum_of_all k w tree trees)
    unfolding minimum_of_all
    minimum_of_all_if x [] tree [] h hs s ss = s
    minimum_of_all_if x [] tree (other ∷ trees) h hs s ss = absurd ss
    minimum_of_all_if x (y ∷ ys) tree [] h hs s ss = absurd ss
    minimum_of_all_if x (y ∷ ys) tree (other ∷ trees) h hs s ss =
        let both = lifted (chosen k w) x y in
        let whole = joined (chosen k w) (x ∷ y ∷ ys) in
        let below = chosen_below held turns k w (kind_chooses k w is some) x y h hs.0 in
        gives_next (StandsIf held turns P w both) (StandsIf held turns P w whole) (tree_minimum k w tree other) _
        (minimum_if held turns P w some k x y tree other is s ss.0)
        (λ more its. formed_kept_if held turns P w whole (joined (chosen k w) (both ∷ ys))
        (minimum_of_all k w more trees)
        (λ _. keeps_same whole (joined (chosen k w) (both ∷ ys)) (joined_grouped x y ys h hs))
        (minimum_of_all_if both ys more trees below hs.1 its ss.1))

  -- ---- sequential minima

  -- a sequential minimum of several trees
  pub sequence_of_all_if : (x : Option ℕ) (xs : List (Option ℕ)) (tree : Tree) (trees : List Tree)
      → StandsIf held turns P w x tree
      → AllStandIf held turns P w xs trees
      → Gives (StandsIf held turns P w (least_in_sequence (x ∷ xs))) (sequence_of_all w tree trees)
  unfolding sequence_of_all
  sequence_of_all_if x [] tree [] s ss = s
  sequence_of_all_if x [] tree (other ∷ trees) s ss = absurd ss
  sequence_of_all_if x (y ∷ ys) tree [] s ss = absurd ss
  sequence_of_all_if x (y ∷ ys) tree (other ∷ trees) s ss =
      let both = chain x y in
      let whole = least_in_sequence (x ∷ y ∷ ys) in
      gives_next (StandsIf held turns P w both) (StandsIf held turns P w whole) (tree_sequence w tree other) _
      (sequence_if held turns P w some x y tree other s ss.0)
      (λ more its. formed_kept_if held turns P w whole (least_in_sequence (both ∷ ys)) (sequence_of_all w more trees)
      (λ _. keeps_same whole (least_in_sequence (both ∷ ys)) (sequence_grouped x y ys))
      (sequence_of_all_if both ys more trees its ss.1))
