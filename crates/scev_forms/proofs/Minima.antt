-- Minima and maxima are canonical, and keep the value.
use Rattle.std.proofs.Common.{◌≡◌, ℕ, ◌^◌, ◌<◌, ◌==◌}
use Rattle.std.proofs.Common.{List, [], ◌∷◌, ◌++◌, map, Option, Some, None, refl, sym, ap, ◌∙◌, subst}
use Rattle.std.proofs.lemmas.Bool.{cond_both, eqb-true}
use Rattle.scev_tree.specs.declared.kind.Kind.{Kind}
use Rattle.scev_tree.specs.declared.kind.Kind.TheVariants as kind
use Rattle.scev_tree.specs.Tree.{Tree, Parts, atom, constant, width_of, parts_of, trees_of}
use Rattle.scev_tree.specs.Order.{tree_code, lower}
use Rattle.scev_tree.specs.Value.{lifted, joined, tree_value, atom_value, parts_values, values}
use Rattle.scev_tree.proofs.Arithmetic.{IsBelow}
use Rattle.scev_tree.proofs.Codes.{one_tree}
use Rattle.scev_tree.proofs.Lower.{told_same}
use Rattle.scev_forms.specs.Outcome.{Done}
use Rattle.scev_forms.specs.Trees.{IsTreeOf, AreTreesOf}
use Rattle.scev_forms.specs.Sums.{same_tree}
use Rattle.scev_forms.specs.Atoms.{number_of}
use Rattle.scev_forms.specs.Minima.{IsMinimum, chosen, neutral, absorbing, flattened, with_number, numbers_joined}
use Rattle.scev_forms.specs.Minima.{with_tree, unless_number, no_numbers, min_parts_of, min_parts, of_parts}
use Rattle.scev_forms.specs.Minima.{tree_minimum}
use Rattle.scev_forms.proofs.Atoms.{value_below, constant_is_tree, constant_same, number_value, made_value}
use Rattle.scev_forms.proofs.Atoms.{alone_value}
use Rattle.scev_forms.proofs.Choices.{IsChoice, kind_chooses}
use Rattle.scev_forms.proofs.Flat.{NotEmpty, minimum_takes_many, many_no_leaf, both_are_trees, both_not_empty}
use Rattle.scev_forms.proofs.Flat.{trees_are_canonical, flattened_cases, flattened_are_trees, flattened_not_empty}
use Rattle.scev_forms.proofs.Flat.{has_two, of_parts_is_tree, values_of_parts, values_of_trees}

-- ---- canonical trees

-- one more tree
pub with_tree_are_trees : (w : ℕ) (tree : Tree) (trees : List Tree)
    → IsTreeOf w tree
    → AreTreesOf w trees
    → AreTreesOf w (with_tree tree trees)
with_tree_are_trees w tree [] is h = (is, tt)
with_tree_are_trees w tree (other ∷ trees) is h =
    cond_both (same_tree tree other) _ _ (AreTreesOf w)
    (λ _. h)
    (λ _. cond_both (lower (tree_code other) (tree_code tree)) _ _ (AreTreesOf w)
    (λ _. (h.0, with_tree_are_trees w tree trees is h.1))
    (λ _. (is, h)))

-- the trees that are no numbers
no_numbers_are_trees : (w : ℕ) (trees : List Tree) → AreTreesOf w trees → AreTreesOf w (no_numbers trees)
no_numbers_are_trees w [] h = tt
no_numbers_are_trees w (tree ∷ trees) h =
    let others = no_numbers_are_trees w trees h.1 in
    elim (number_of tree) as (λ o. AreTreesOf w (unless_number o tree (no_numbers trees))) [
      | None ↦ with_tree_are_trees w tree (no_numbers trees) h.0 others
      | Some n ↦ others
    ]

-- the parts, with a number
min_parts_are_trees : (k : Kind) (w : ℕ) (o : Option ℕ) (trees : List Tree)
    → AreTreesOf w trees
    → AreTreesOf w (min_parts_of k w o trees)
min_parts_are_trees k w None trees h = h
min_parts_are_trees k w (Some n) [] h = (constant_is_tree w n, tt)
min_parts_are_trees k w (Some n) (tree ∷ trees) h =
    cond_both (n == absorbing k w) _ _ (AreTreesOf w)
    (λ _. (constant_is_tree w n, tt))
    (λ _. cond_both (n == neutral k w) _ _ (AreTreesOf w)
    (λ _. h)
    (λ _. with_tree_are_trees w (constant w n) (tree ∷ trees) (constant_is_tree w n) h))

-- one more tree is one
with_tree_not_empty : (tree : Tree) (trees : List Tree) → NotEmpty (with_tree tree trees)
with_tree_not_empty tree [] = tt
with_tree_not_empty tree (other ∷ trees) =
    cond_both (same_tree tree other) _ _ NotEmpty
    (λ _. tt)
    (λ _. cond_both (lower (tree_code other) (tree_code tree)) _ _ NotEmpty (λ _. tt) (λ _. tt))

-- with a number there is a part
number_not_empty : (k : Kind) (w n : ℕ) (trees : List Tree) → NotEmpty (min_parts_of k w (Some n) trees)
number_not_empty k w n [] = tt
number_not_empty k w n (tree ∷ trees) =
    cond_both (n == absorbing k w) _ _ NotEmpty
    (λ _. tt)
    (λ _. cond_both (n == neutral k w) _ _ NotEmpty
    (λ _. tt)
    (λ _. with_tree_not_empty (constant w n) (tree ∷ trees)))

-- with a tree too, whether it is a number or not
first_not_empty : (k : Kind) (w : ℕ) (o found : Option ℕ) (tree : Tree) (trees : List Tree)
    → NotEmpty (min_parts_of k w (with_number k w o found) (unless_number o tree trees))
first_not_empty k w None None tree trees = with_tree_not_empty tree trees
first_not_empty k w None (Some n) tree trees = number_not_empty k w n (with_tree tree trees)
first_not_empty k w (Some m) None tree trees = number_not_empty k w m trees
first_not_empty k w (Some m) (Some n) tree trees = number_not_empty k w (chosen k w m n) trees

-- so of some trees there is a part
pub min_parts_not_empty : (k : Kind) (w : ℕ) (trees : List Tree)
    → NotEmpty trees
    → NotEmpty (min_parts_of k w (numbers_joined k w trees) (no_numbers trees))
min_parts_not_empty k w [] h = absurd h
min_parts_not_empty k w (tree ∷ trees) h =
    first_not_empty k w (number_of tree) (numbers_joined k w trees) tree (no_numbers trees)

-- a minimum or maximum of canonical trees is one
pub minimum_is_tree : (k : Kind) (w : ℕ) (left right out : Tree)
    → IsMinimum k
    → 0 < w
    → IsTreeOf w left
    → IsTreeOf w right
    → tree_minimum k w left right ≡ Done out
    → IsTreeOf w out
unfolding tree_minimum
minimum_is_tree k w left right out is some l r h =
    let many = minimum_takes_many k is in
    let parts = flattened k left ++ flattened k right in
    let trees = both_are_trees w (flattened k left) (flattened k right) (flattened_are_trees k w left many l)
    (flattened_are_trees k w right many r) in
    let filled = both_not_empty (flattened k left) (flattened k right) (flattened_not_empty k w left many l) in
    of_parts_is_tree k w (min_parts k w left right) out many some (min_parts_not_empty k w parts filled)
    (min_parts_are_trees k w (numbers_joined k w parts) (no_numbers parts) (no_numbers_are_trees w parts trees)) h

-- ---- values

-- the value of an atom of such a kind is that of its parts, joined
pub kind_joined : (held : ℕ → Option ℕ) (turns : ℕ → ℕ) (k : Kind) (w : ℕ) (parts : Parts)
    → IsMinimum k
    → atom_value held turns (atom k w parts) ≡ joined (chosen k w) (values (parts_values held turns parts))
kind_joined held turns kind.Smax w parts is = refl
kind_joined held turns kind.Umax w parts is = refl
kind_joined held turns kind.Smin w parts is = refl
kind_joined held turns kind.Umin w parts is = refl
kind_joined held turns _ w parts is = absurd is

-- where an operation on a number gives one, the other side is one
pub other_number : (op : ℕ → ℕ → ℕ) (m n : ℕ) (x : Option ℕ)
    → lifted op (Some m) x ≡ Some n
    → (j : ℕ) × (x ≡ Some j) × (n ≡ op m j)
other_number op m n None h = absurd cc
other_number op m n (Some j) h = (j, refl, cc)

module _ (held : ℕ → Option ℕ) (turns : ℕ → ℕ) (k : Kind) (w : ℕ)
    (choice : IsChoice w (chosen k w) (neutral k w) (absorbing k w)) where
  -- ---- of two numbers, or none

  -- what is chosen is below
  pub chosen_below : (x y : Option ℕ) → IsBelow w x → IsBelow w y → IsBelow w (lifted (chosen k w) x y)
  chosen_below (Some a) (Some b) h h' = choice.closed a b h h'
  chosen_below _ _ h h' = tt

  -- in either grouping
  pub chosen_grouped : (x y z : Option ℕ)
      → IsBelow w x
      → IsBelow w y
      → IsBelow w z
      → lifted (chosen k w) (lifted (chosen k w) x y) z ≡ lifted (chosen k w) x (lifted (chosen k w) y z)
  chosen_grouped (Some a) (Some b) (Some c) h h' h'' = ap Some (choice.grouped a b c h h' h'')
  chosen_grouped _ _ _ h h' h'' = refl

  -- in either order
  chosen_turned : (x y : Option ℕ)
      → IsBelow w x
      → IsBelow w y
      → lifted (chosen k w) x y ≡ lifted (chosen k w) y x
  chosen_turned (Some a) (Some b) h h' = ap Some (choice.turned a b h h')
  chosen_turned (Some a) None h h' = refl
  chosen_turned None (Some b) h h' = refl
  chosen_turned None None h h' = refl

  -- the first two of three change places
  chosen_left : (x y z : Option ℕ)
      → IsBelow w x
      → IsBelow w y
      → IsBelow w z
      → lifted (chosen k w) x (lifted (chosen k w) y z) ≡ lifted (chosen k w) y (lifted (chosen k w) x z)
  chosen_left x y z h h' h'' =
      sym (chosen_grouped x y z h h' h'') ∙ ap (λ u. lifted (chosen k w) u z) (chosen_turned x y h h')
      ∙ chosen_grouped y x z h' h h''

  -- of one twice
  chosen_once : (x : Option ℕ) → IsBelow w x → lifted (chosen k w) x x ≡ x
  chosen_once (Some a) h = ap Some (choice.once a h)
  chosen_once None h = refl

  -- before the number that never is the one
  chosen_stays : (x : Option ℕ) → IsBelow w x → lifted (chosen k w) x (Some (neutral k w)) ≡ x
  chosen_stays (Some a) h = ap Some (choice.stays a h)
  chosen_stays None h = refl

  -- and behind it
  chosen_never : (x : Option ℕ) → IsBelow w x → lifted (chosen k w) (Some (neutral k w)) x ≡ x
  chosen_never x h = chosen_turned (Some (neutral k w)) x choice.never_fits h ∙ chosen_stays x h

  -- ---- of trees

  -- the one that is chosen of the values of trees, from the number that never is
  abbrev all_chosen : List Tree → Option ℕ
  all_chosen [] = Some (neutral k w)
  all_chosen (tree ∷ trees) = lifted (chosen k w) (tree_value held turns tree) (all_chosen trees)

  -- what is chosen is below
  all_below : (trees : List Tree) → AreTreesOf w trees → IsBelow w (all_chosen trees)
  all_below [] h = choice.never_fits
  all_below (tree ∷ trees) h =
      chosen_below (tree_value held turns tree) (all_chosen trees) (value_below held turns w tree h.0)
      (all_below trees h.1)

  -- the values of some trees, joined
  joined_chosen : (tree : Tree) (trees : List Tree)
      → AreTreesOf w (tree ∷ trees)
      → joined (chosen k w) (map (tree_value held turns) (tree ∷ trees)) ≡ all_chosen (tree ∷ trees)
  joined_chosen tree [] h = sym (chosen_stays (tree_value held turns tree) (value_below held turns w tree h.0))
  joined_chosen tree (other ∷ trees) h =
      ap (lifted (chosen k w) (tree_value held turns tree)) (joined_chosen other trees h.1)

  -- of some trees
  some_chosen : (trees : List Tree)
      → NotEmpty trees
      → AreTreesOf w trees
      → joined (chosen k w) (map (tree_value held turns) trees) ≡ all_chosen trees
  some_chosen [] filled h = absurd filled
  some_chosen (tree ∷ trees) filled h = joined_chosen tree trees h

  -- trees behind trees
  both_chosen : (xs ys : List Tree)
      → AreTreesOf w xs
      → AreTreesOf w ys
      → all_chosen (xs ++ ys) ≡ lifted (chosen k w) (all_chosen xs) (all_chosen ys)
  both_chosen [] ys h h' = sym (chosen_never (all_chosen ys) (all_below ys h'))
  both_chosen (x ∷ xs) ys h h' =
      ap (lifted (chosen k w) (tree_value held turns x)) (both_chosen xs ys h.1 h')
      ∙ sym (chosen_grouped (tree_value held turns x) (all_chosen xs) (all_chosen ys) (value_below held turns w x h.0)
      (all_below xs h.1) (all_below ys h'))

  -- one more tree
  with_tree_chosen : (tree : Tree) (trees : List Tree)
      → IsTreeOf w tree
      → AreTreesOf w trees
      → all_chosen (with_tree tree trees) ≡ lifted (chosen k w) (tree_value held turns tree) (all_chosen trees)
  with_tree_chosen tree [] is h = refl
  with_tree_chosen tree (other ∷ trees) is h =
      let x = tree_value held turns tree in
      let y = tree_value held turns other in
      let rest = all_chosen trees in
      let xb = value_below held turns w tree is in
      let yb = value_below held turns w other h.0 in
      let rb = all_below trees h.1 in
      cond_both (same_tree tree other) _ _ (λ l. all_chosen l ≡ lifted (chosen k w) x (lifted (chosen k w) y rest))
      (λ told.
      let one = one_tree tree other (told_same (tree_code tree) (tree_code other) told) in
      sym (ap (λ u. lifted (chosen k w) u rest)
      (ap (λ t. lifted (chosen k w) (tree_value held turns t) y) one ∙ chosen_once y yb))
      ∙ chosen_grouped x y rest xb yb rb)
      (λ _. cond_both (lower (tree_code other) (tree_code tree)) _ _
      (λ l. all_chosen l ≡ lifted (chosen k w) x (lifted (chosen k w) y rest))
      (λ _. ap (lifted (chosen k w) y) (with_tree_chosen tree trees is h.1) ∙ chosen_left y x rest yb xb rb)
      (λ _. refl))

  -- ---- numbers among them

  -- the number that was found, or the one that never is chosen
  abbrev as_number : Option ℕ → Option ℕ
  as_number None = Some (neutral k w)
  as_number (Some n) = Some n

  -- it is below
  as_number_below : (o : Option ℕ) → IsBelow w o → IsBelow w (as_number o)
  as_number_below None h = choice.never_fits
  as_number_below (Some n) h = h

  -- the number of a tree
  number_below : (tree : Tree) (n : ℕ) → IsTreeOf w tree → number_of tree ≡ Some n → n < 2 ^ w
  number_below tree n is e = subst (λ v. n < 2 ^ v) is.0 (number_value held turns tree n is.1 e).1

  -- one more number
  with_number_below : (o found : Option ℕ) → IsBelow w o → IsBelow w found → IsBelow w (with_number k w o found)
  with_number_below None found h h' = h'
  with_number_below (Some n) None h h' = h
  with_number_below (Some n) (Some m) h h' = choice.closed n m h h'

  -- the number of a tree, where it is one
  number_of_below : (tree : Tree) → IsTreeOf w tree → IsBelow w (number_of tree)
  number_of_below tree is =
      elim (number_of tree) as (λ o. number_of tree ≡ o → IsBelow w o) [
        | None ↦ λ e. tt
        | Some n ↦ λ e. number_below tree n is e
      ] refl

  -- the one of all numbers among trees
  numbers_below : (trees : List Tree) → AreTreesOf w trees → IsBelow w (numbers_joined k w trees)
  numbers_below [] h = tt
  numbers_below (tree ∷ trees) h =
      with_number_below (number_of tree) (numbers_joined k w trees) (number_of_below tree h.0) (numbers_below trees h.1)

  -- one more number is chosen from
  with_number_chosen : (n : ℕ) (found : Option ℕ)
      → n < 2 ^ w
      → as_number (with_number k w (Some n) found) ≡ lifted (chosen k w) (Some n) (as_number found)
  with_number_chosen n None h = ap Some (sym (choice.stays n h))
  with_number_chosen n (Some m) h = refl

  -- trees, as the number of all numbers among them and the other trees
  numbers_apart : (trees : List Tree)
      → AreTreesOf w trees
      → all_chosen trees ≡ lifted (chosen k w) (as_number (numbers_joined k w trees)) (all_chosen (no_numbers trees))
  numbers_apart [] h = sym (chosen_never (Some (neutral k w)) choice.never_fits)
  numbers_apart (tree ∷ trees) h =
      let x = tree_value held turns tree in
      let found = numbers_joined k w trees in
      let others = no_numbers trees in
      let xb = value_below held turns w tree h.0 in
      let fb = as_number_below found (numbers_below trees h.1) in
      let others_are = no_numbers_are_trees w trees h.1 in
      let ob = all_below others others_are in
      ap (lifted (chosen k w) x) (numbers_apart trees h.1)
      ∙ elim (number_of tree) as (λ o. number_of tree ≡ o
      → lifted (chosen k w) x (lifted (chosen k w) (as_number found) (all_chosen others))
      ≡ lifted (chosen k w) (as_number (with_number k w o found)) (all_chosen (unless_number o tree others))) [
        | None ↦ λ e.
            chosen_left x (as_number found) (all_chosen others) xb fb ob
            ∙ ap (lifted (chosen k w) (as_number found)) (sym (with_tree_chosen tree others h.0 others_are))
        | Some n ↦ λ e.
            let fits = number_below tree n h.0 e in
            ap (λ u. lifted (chosen k w) u (lifted (chosen k w) (as_number found) (all_chosen others)))
            (number_value held turns tree n h.0.1 e).0
            ∙ sym (chosen_grouped (Some n) (as_number found) (all_chosen others) fits fb ob)
            ∙ ap (λ u. lifted (chosen k w) u (all_chosen others)) (sym (with_number_chosen n found fits))
      ] refl

  -- the parts, with a number that is absorbing, or neutral, or else among them
  min_parts_chosen : (o : Option ℕ) (trees : List Tree) (n : ℕ)
      → IsBelow w o
      → AreTreesOf w trees
      → lifted (chosen k w) (as_number o) (all_chosen trees) ≡ Some n
      → all_chosen (min_parts_of k w o trees) ≡ Some n
  min_parts_chosen None trees n below h value = sym (chosen_never (all_chosen trees) (all_below trees h)) ∙ value
  min_parts_chosen (Some m) [] n below h value =
      ap (λ u. lifted (chosen k w) u (Some (neutral k w))) (constant_same held turns w m below) ∙ value
  min_parts_chosen (Some m) (tree ∷ trees) n below h value =
      let rest = all_chosen (tree ∷ trees) in
      let rb = all_below (tree ∷ trees) h in
      let number = constant_same held turns w m below in
      cond_both (m == absorbing k w) _ _ (λ l. all_chosen l ≡ Some n)
      (λ all.
      let e = eqb-true m (absorbing k w) all in
      let other = other_number (chosen k w) m n rest value in
      let fits : other.0 < 2 ^ w = subst (IsBelow w) other.1 rb in
      let whole : n ≡ m = other.2 ∙ ap (λ u. chosen k w u other.0) e ∙ choice.absorbs other.0 fits ∙ sym e in
      ap (λ u. lifted (chosen k w) u (Some (neutral k w))) number ∙ chosen_stays (Some m) below ∙ ap Some (sym whole))
      (λ _. cond_both (m == neutral k w) _ _ (λ l. all_chosen l ≡ Some n)
      (λ none.
      let e = eqb-true m (neutral k w) none in
      sym (chosen_never rest rb) ∙ sym (ap (λ u. lifted (chosen k w) (Some u) rest) e) ∙ value)
      (λ _. with_tree_chosen (constant w m) (tree ∷ trees) (constant_is_tree w m) h
      ∙ ap (λ u. lifted (chosen k w) u rest) number ∙ value))

  -- ---- the tree

  -- what is flattened
  flattened_chosen : (tree : Tree)
      → IsMinimum k
      → IsTreeOf w tree
      → all_chosen (flattened k tree) ≡ tree_value held turns tree
  flattened_chosen tree is tree_is =
      let many = minimum_takes_many k is in
      flattened_cases k w tree (λ l. NotEmpty l → AreTreesOf w l → all_chosen l ≡ tree_value held turns tree)
      many tree_is
      (λ _ _. chosen_stays (tree_value held turns tree) (value_below held turns w tree tree_is))
      (λ parts one two trees filled _.
      sym (some_chosen (trees_of parts) filled trees)
      ∙ sym (ap (joined (chosen k w)) (values_of_parts held turns parts))
      ∙ sym (kind_joined held turns k w parts is)
      ∙ sym (alone_value held turns tree k w parts (many_no_leaf held (width_of tree) k many) tree_is.1 one))
      (flattened_not_empty k w tree many tree_is) (flattened_are_trees k w tree many tree_is)

  -- an atom of trees, or the only one
  of_parts_chosen : (trees : List Tree) (out : Tree)
      → IsMinimum k
      → NotEmpty trees
      → AreTreesOf w trees
      → of_parts k w trees ≡ Done out
      → tree_value held turns out ≡ all_chosen trees
  of_parts_chosen [] out is filled h e = absurd filled
  of_parts_chosen (only ∷ []) out is filled h e =
      let same : out ≡ only = cc in
      ap (tree_value held turns) same
      ∙ sym (chosen_stays (tree_value held turns only) (value_below held turns w only h.0))
  of_parts_chosen (first ∷ second ∷ trees) out is filled h e =
      let many = minimum_takes_many k is in
      let all = first ∷ second ∷ trees in
      made_value held turns k w all out (many_no_leaf held w k many) (has_two k w first second trees many h)
      (trees_are_canonical w all h) e
      ∙ kind_joined held turns k w (parts_of all) is
      ∙ ap (joined (chosen k w)) (values_of_trees held turns all)
      ∙ joined_chosen first (second ∷ trees) h

  -- a minimum or a maximum keeps the value
  minimum_chosen : (left right out : Tree) (n : ℕ)
      → IsMinimum k
      → IsTreeOf w left
      → IsTreeOf w right
      → tree_minimum k w left right ≡ Done out
      → lifted (chosen k w) (tree_value held turns left) (tree_value held turns right) ≡ Some n
      → tree_value held turns out ≡ Some n
  unfolding tree_minimum
  minimum_chosen left right out n is l r h value =
      let many = minimum_takes_many k is in
      let xs = flattened k left in
      let ys = flattened k right in
      let xs_are = flattened_are_trees k w left many l in
      let ys_are = flattened_are_trees k w right many r in
      let parts = xs ++ ys in
      let trees = both_are_trees w xs ys xs_are ys_are in
      let filled = both_not_empty xs ys (flattened_not_empty k w left many l) in
      let found = numbers_joined k w parts in
      let others = no_numbers parts in
      let others_are = no_numbers_are_trees w parts trees in
      let whole = sym (numbers_apart parts trees) ∙ both_chosen xs ys xs_are ys_are
      ∙ ap (λ u. lifted (chosen k w) u (all_chosen ys)) (flattened_chosen left is l)
      ∙ ap (lifted (chosen k w) (tree_value held turns left)) (flattened_chosen right is r) ∙ value in
      of_parts_chosen (min_parts k w left right) out is (min_parts_not_empty k w parts filled)
      (min_parts_are_trees k w found others others_are) h
      ∙ min_parts_chosen found others n (numbers_below parts trees) others_are whole

-- a minimum or a maximum keeps the value
pub minimum_value : (held : ℕ → Option ℕ) (turns : ℕ → ℕ) (k : Kind) (w : ℕ) (left right out : Tree) (n : ℕ)
    → IsMinimum k
    → 0 < w
    → IsTreeOf w left
    → IsTreeOf w right
    → tree_minimum k w left right ≡ Done out
    → lifted (chosen k w) (tree_value held turns left) (tree_value held turns right) ≡ Some n
    → tree_value held turns out ≡ Some n
minimum_value held turns k w left right out n is some l r h value =
    minimum_chosen held turns k w (kind_chooses k w is some) left right out n is l r h value
