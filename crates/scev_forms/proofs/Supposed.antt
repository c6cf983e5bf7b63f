-- Trees that stand for a value where something is supposed: canonical in any case, and with that value if it holds.
use Rattle.std.proofs.Common.{◌≡◌, ℕ, ◌%◌, ◌^◌, ◌<◌, ◌≤◌, zero, suc, List, [], ◌∷◌}
use Rattle.std.proofs.Common.{Option, Some, None, refl, ap, ◌∙◌}
use Rattle.std.specs.Option.{option_map}
use Rattle.scev_tree.specs.declared.kind.Kind.{Kind}
use Rattle.scev_tree.specs.Tree.{Tree, constant, width_of}
use Rattle.scev_tree.specs.Value.{lifted, sum, product, quotient, tree_value}
use Rattle.scev_forms.specs.Trees.{IsTreeOf, AreTreesOf}
use Rattle.scev_forms.specs.Outcome.{Outcome, Done, Refused}
use Rattle.scev_forms.specs.Sums.{tree_sum, tree_product, recurrence_of}
use Rattle.scev_forms.specs.Casts.{truncated, extended, extended_number}
use Rattle.scev_forms.specs.Quotients.{tree_quotient}
use Rattle.scev_forms.specs.Minima.{IsMinimum, chosen, tree_minimum, tree_sequence}
use Rattle.scev_forms.proofs.Outcomes.{Gives, gives_more, given}
use Rattle.scev_forms.proofs.Kept.{Keeps, keeps_again, keeps_lifted, keeps_sum, keeps_product, keeps_times_one}
use Rattle.scev_forms.proofs.Kept.{keeps_plus_zero}
use Rattle.scev_forms.proofs.Atoms.{value_below, constant_is_tree}
use Rattle.scev_forms.proofs.Standing.{Stands, AllStand, value_at, parts_from_all, constant_stands}
use Rattle.scev_forms.proofs.Formers.{recurrence_of_stands}
use Rattle.scev_forms.proofs.SumsFormed.{sum_canonical, product_canonical, sum_value, product_value, recurrence_formed}
use Rattle.scev_forms.proofs.Truncations.{truncation_is_tree}
use Rattle.scev_forms.proofs.TruncatedValues.{truncation_value, mapped_number}
use Rattle.scev_forms.proofs.Extensions.{IsExtension, extension_is_canonical, extension_value}
use Rattle.scev_forms.proofs.Quotients.{quotient_is_tree, quotient_value}
use Rattle.scev_forms.proofs.Minima.{minimum_is_tree, minimum_value}
use Rattle.scev_forms.proofs.Sequences.{chain, least_first, sequence_is_tree, sequence_value}

-- a quotient keeps what its sides keep
keeps_quotient : (x x' y y' : Option ℕ) → Keeps x x' → Keeps y y' → Keeps (quotient x y) (quotient x' y')
keeps_quotient x x' (Some zero) y' h h' n e = absurd cc
keeps_quotient (Some a) x' (Some (suc b)) y' h h' n e =
    ap (λ z. quotient z y') (h a refl) ∙ ap (quotient (Some a)) (h' (suc b) refl) ∙ e
keeps_quotient None x' (Some (suc b)) y' h h' n e = absurd cc
keeps_quotient (Some a) x' None y' h h' n e = absurd cc
keeps_quotient None x' None y' h h' n e = absurd cc

-- the lesser of two, where a first 0 is alone, keeps what its sides keep
keeps_chain : (x x' y y' : Option ℕ) → Keeps x x' → Keeps y y' → Keeps (chain x y) (chain x' y')
keeps_chain (Some zero) x' y y' h h' n e = ap (λ z. chain z y') (h 0 refl) ∙ e
keeps_chain (Some (suc a)) x' (Some b) y' h h' n e =
    ap (λ z. chain z y') (h (suc a) refl) ∙ ap (chain (Some (suc a))) (h' b refl) ∙ e
keeps_chain (Some (suc a)) x' None y' h h' n e = absurd cc
keeps_chain None x' y y' h h' n e = absurd cc

module _ (held : ℕ → Option ℕ) (turns : ℕ → ℕ) (P : Type 0) (w : ℕ) where
  -- a canonical tree of w bits, which has the value wherever it is a number, if P holds
  abbrev pub StandsIf : Option ℕ → Tree → Type 0
  StandsIf x tree = IsTreeOf w tree × (P → Keeps x (tree_value held turns tree))

  -- each tree stands so for the value at its place
  abbrev pub AllStandIf : List (Option ℕ) → List Tree → Type 0
  AllStandIf [] [] = Unit {0}
  AllStandIf [] (tree ∷ trees) = ⊥
  AllStandIf (x ∷ xs) [] = ⊥
  AllStandIf (x ∷ xs) (tree ∷ trees) = StandsIf x tree × AllStandIf xs trees

  -- they are canonical
  all_are_trees : (xs : List (Option ℕ)) (trees : List Tree) → AllStandIf xs trees → AreTreesOf w trees
  all_are_trees [] [] h = tt
  all_are_trees [] (tree ∷ trees) h = absurd h
  all_are_trees (x ∷ xs) [] h = absurd h
  all_are_trees (x ∷ xs) (tree ∷ trees) h = (h.0.0, all_are_trees xs trees h.1)

  -- and stand for the values, if P holds
  all_supposed : P → (xs : List (Option ℕ)) (trees : List Tree) → AllStandIf xs trees → AllStand held turns w xs trees
  all_supposed p [] [] h = tt
  all_supposed p [] (tree ∷ trees) h = absurd h
  all_supposed p (x ∷ xs) [] h = absurd h
  all_supposed p (x ∷ xs) (tree ∷ trees) h = ((h.0.0, h.0.1 p), all_supposed p xs trees h.1)

  -- ---- what is formed

  -- what is formed stands for a value, if each tree that may be formed is canonical and has it
  pub formed_if : (x : Option ℕ) (o : Outcome Tree)
      → ((out : Tree) → o ≡ Done out → IsTreeOf w out)
      → ((out : Tree) (n : ℕ) → P → o ≡ Done out → x ≡ Some n → tree_value held turns out ≡ Some n)
      → Gives (StandsIf x) o
  formed_if x (Done out) are value = (are out refl, λ p n e. value out n p refl e)
  formed_if x (Refused why) are value = tt

  -- it stands for what keeps to the value
  pub kept_if : (x y : Option ℕ) (tree : Tree) → (P → Keeps x y) → StandsIf y tree → StandsIf x tree
  kept_if x y tree keeps h = (h.0, λ p. keeps_again x y (tree_value held turns tree) (keeps p) (h.1 p))

  -- so does anything that is formed
  pub formed_kept_if : (x y : Option ℕ) (o : Outcome Tree)
      → (P → Keeps x y)
      → Gives (StandsIf y) o
      → Gives (StandsIf x) o
  formed_kept_if x y o keeps h = gives_more (StandsIf y) (StandsIf x) o h (λ tree. kept_if x y tree keeps)

  -- a tree stands for the value also as one that is multiplied by 1
  pub once_if : (x : Option ℕ) (tree : Tree) → StandsIf x tree → StandsIf (product w x (Some 1)) tree
  once_if x tree h = (
    h.0,
    λ p. keeps_times_one w x (tree_value held turns tree) (value_below held turns w tree h.0) (h.1 p),
  )

  -- and with 0 added
  pub with_zero_if : (x : Option ℕ) (tree : Tree) → StandsIf x tree → StandsIf (sum w x (Some 0)) tree
  with_zero_if x tree h = (
    h.0,
    λ p. keeps_plus_zero w x (tree_value held turns tree) (value_below held turns w tree h.0) (h.1 p),
  )

  -- a constant
  pub constant_if : (n : ℕ) → StandsIf (Some (n % 2 ^ w)) (constant w n)
  constant_if n = (constant_is_tree w n, λ p. (constant_stands held turns w n).1)

  module _ (some : 0 < w) where
    -- a sum
    pub sum_if : (parents : List (Option ℕ)) (x y : Option ℕ) (left right : Tree)
        → StandsIf x left
        → StandsIf y right
        → Gives (StandsIf (sum w x y)) (tree_sum parents w left right)
    sum_if parents x y left right h h' =
        formed_if (sum w x y) (tree_sum parents w left right)
        (λ out e. sum_canonical parents w left right out some h.0 h'.0 e)
        (λ out n p e value. sum_value parents w left right out held turns n some h.0 h'.0 e
        (keeps_sum w x (tree_value held turns left) y (tree_value held turns right) (h.1 p) (h'.1 p) n value))

    -- a product
    pub product_if : (parents : List (Option ℕ)) (x y : Option ℕ) (left right : Tree)
        → StandsIf x left
        → StandsIf y right
        → Gives (StandsIf (product w x y)) (tree_product parents w left right)
    product_if parents x y left right h h' =
        formed_if (product w x y) (tree_product parents w left right)
        (λ out e. product_canonical parents w left right out some h.0 h'.0 e)
        (λ out n p e value. product_value parents w left right out held turns n some h.0 h'.0 e
        (keeps_product w x (tree_value held turns left) y (tree_value held turns right) (h.1 p) (h'.1 p) n value))

    -- a quotient
    pub quotient_if : (x y : Option ℕ) (left right : Tree)
        → StandsIf x left
        → StandsIf y right
        → Gives (StandsIf (quotient x y)) (tree_quotient w left right)
    quotient_if x y left right h h' =
        formed_if (quotient x y) (tree_quotient w left right)
        (λ out e. quotient_is_tree w left right out some h.0 h'.0 e)
        (λ out n p e value. quotient_value held turns w left right out n h.0 h'.0 e
        (keeps_quotient x (tree_value held turns left) y (tree_value held turns right) (h.1 p) (h'.1 p) n value))

    -- a minimum or a maximum
    pub minimum_if : (k : Kind) (x y : Option ℕ) (left right : Tree)
        → IsMinimum k
        → StandsIf x left
        → StandsIf y right
        → Gives (StandsIf (lifted (chosen k w) x y)) (tree_minimum k w left right)
    minimum_if k x y left right is h h' =
        formed_if (lifted (chosen k w) x y) (tree_minimum k w left right)
        (λ out e. minimum_is_tree k w left right out is some h.0 h'.0 e)
        (λ out n p e value. minimum_value held turns k w left right out n is some h.0 h'.0 e
        (keeps_lifted (chosen k w) x (tree_value held turns left) y (tree_value held turns right) (h.1 p) (h'.1 p)
        n value))

    -- a sequential minimum
    pub sequence_if : (x y : Option ℕ) (left right : Tree)
        → StandsIf x left
        → StandsIf y right
        → Gives (StandsIf (chain x y)) (tree_sequence w left right)
    sequence_if x y left right h h' =
        let a = tree_value held turns left in
        let b = tree_value held turns right in
        formed_if (chain x y) (tree_sequence w left right)
        (λ out e. sequence_is_tree w left right out some h.0 h'.0 e)
        (λ out n p e value. sequence_value held turns w left right out n some h.0 h'.0 e
        (least_first a b [] ∙ keeps_chain x a y b (h.1 p) (h'.1 p) n value))

    -- a recurrence
    pub recurrence_if : (l : ℕ) (xs : List (Option ℕ)) (trees : List Tree)
        → AllStandIf xs trees
        → Gives (StandsIf (value_at w (turns l) xs)) (recurrence_of w l trees)
    recurrence_if l xs trees h =
        let x = value_at w (turns l) xs in
        formed_if x (recurrence_of w l trees)
        (λ out e. (recurrence_formed held turns w l trees out some (all_are_trees xs trees h) e).0)
        (λ out n p e.
        (given (Stands held turns w x) (recurrence_of w l trees) out (recurrence_of_stands held turns w some l x trees
        (parts_from_all held turns w l xs trees (all_supposed p xs trees h))) e).1 n)

    -- the lowest bits of a tree
    pub truncated_if : (parents : List (Option ℕ)) (x : Option ℕ) (tree : Tree)
        → w ≤ width_of tree
        → IsTreeOf (width_of tree) tree
        → (P → Keeps x (tree_value held turns tree))
        → Gives (StandsIf (option_map (λ n. n % 2 ^ w) x)) (truncated parents w tree)
    truncated_if parents x tree most is keeps =
        formed_if (option_map (λ n. n % 2 ^ w) x) (truncated parents w tree)
        (λ out e. truncation_is_tree parents w tree out some most is.1 e)
        (λ out n p e value.
        let number = mapped_number (λ m. m % 2 ^ w) x n value in
        truncation_value parents w tree out held turns number.0 some most is.1 e (keeps p number.0 number.1)
        ∙ ap Some number.2)

  -- an extension, of what it is an extension of
  pub extended_if : (k : Kind) (x y : Option ℕ) (tree : Tree)
      → IsExtension k
      → width_of tree ≤ w
      → IsTreeOf (width_of tree) tree
      → (P → Keeps x (tree_value held turns tree))
      → (P → (n : ℕ) → y ≡ Some n → (m : ℕ) × (x ≡ Some m) × (extended_number k (width_of tree) w m ≡ n))
      → Gives (StandsIf y) (extended k w tree)
  extended_if k x y tree ext most is keeps number =
      formed_if y (extended k w tree)
      (λ out e. extension_is_canonical k w tree out ext most is.1 e)
      (λ out n p e value.
      let its = number p n value in
      extension_value held turns k w tree out its.0 ext most is.1 e (keeps p its.0 its.1) ∙ ap Some its.2)
