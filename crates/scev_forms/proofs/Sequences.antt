-- Sequential minima are canonical, and keep the value.
use Rattle.std.proofs.Common.{◌≡◌, ℕ, zero, suc, ◌-◌, ◌^◌, ◌<◌, min, true}
use Rattle.std.proofs.Common.{List, [], ◌∷◌, ◌++◌, map, Option, Some, None, refl, sym, ap, ◌∙◌, subst, arith}
use Rattle.std.proofs.lemmas.Bool.{cond_both}
use Rattle.std.proofs.lemmas.Nat.{pow_below}
use Rattle.scev_tree.specs.declared.kind.Kind.TheVariants as kind
use Rattle.scev_tree.specs.Tree.{Tree, trees_of}
use Rattle.scev_tree.specs.Order.{tree_code}
use Rattle.scev_tree.specs.Value.{lifted, least_in_sequence, tree_value}
use Rattle.scev_tree.proofs.Arithmetic.{IsBelow}
use Rattle.scev_tree.proofs.Codes.{one_tree}
use Rattle.scev_tree.proofs.Lower.{told_same}
use Rattle.scev_forms.specs.Outcome.{Done}
use Rattle.scev_forms.specs.Trees.{IsTreeOf, AreTreesOf}
use Rattle.scev_forms.specs.Gather.{is_zero}
use Rattle.scev_forms.specs.Sums.{same_tree}
use Rattle.scev_forms.specs.Atoms.{number_of}
use Rattle.scev_forms.specs.Minima.{flattened, is_among, first_ones, least_before, number_before, tree_before}
use Rattle.scev_forms.specs.Minima.{neighbours_joined, from_zero, sequence_parts, of_parts, tree_sequence}
use Rattle.scev_forms.proofs.Atoms.{value_below, constant_is_tree, constant_same, number_value, made_value}
use Rattle.scev_forms.proofs.Atoms.{alone_value}
use Rattle.scev_forms.proofs.Flat.{NotEmpty, both_are_trees, both_not_empty, trees_are_canonical, flattened_cases}
use Rattle.scev_forms.proofs.Flat.{flattened_are_trees, flattened_not_empty, has_two, of_parts_is_tree}
use Rattle.scev_forms.proofs.Flat.{values_of_parts, values_of_trees}
use Rattle.scev_forms.proofs.Trimmed.{zero_value}

-- ---- canonical trees

-- the trees that stand there the first time
first_are_trees : (w : ℕ) (before trees : List Tree) → AreTreesOf w trees → AreTreesOf w (first_ones before trees)
first_are_trees w before [] h = tt
first_are_trees w before (tree ∷ trees) h =
    cond_both (is_among tree before) _ _ (AreTreesOf w)
    (λ _. first_are_trees w before trees h.1)
    (λ _. (h.0, first_are_trees w (tree ∷ before) trees h.1))

-- a number before trees
number_are_trees : (w n : ℕ) (trees : List Tree) → AreTreesOf w trees → AreTreesOf w (number_before w n trees)
number_are_trees w n [] h = (constant_is_tree w n, tt)
number_are_trees w n (tree ∷ trees) h =
    elim (number_of tree) as (λ o. AreTreesOf w (least_before w n tree o trees)) [
      | None ↦ (constant_is_tree w n, h)
      | Some m ↦ (constant_is_tree w (min n m), h.1)
    ]

-- neighbouring numbers joined
neighbours_are_trees : (w : ℕ) (trees : List Tree) → AreTreesOf w trees → AreTreesOf w (neighbours_joined w trees)
neighbours_are_trees w [] h = tt
neighbours_are_trees w (tree ∷ trees) h =
    let others = neighbours_are_trees w trees h.1 in
    elim (number_of tree) as (λ o. AreTreesOf w (tree_before w tree o (neighbours_joined w trees))) [
      | None ↦ (h.0, others)
      | Some n ↦ number_are_trees w n (neighbours_joined w trees) others
    ]

-- a first 0 alone
zero_are_trees : (w : ℕ) (trees : List Tree) → AreTreesOf w trees → AreTreesOf w (from_zero trees)
zero_are_trees w [] h = tt
zero_are_trees w (tree ∷ trees) h =
    cond_both (is_zero tree) (tree ∷ []) (tree ∷ trees) (AreTreesOf w) (λ _. (h.0, tt)) (λ _. h)

-- of some trees there is a first one
first_not_empty : (trees : List Tree) → NotEmpty trees → NotEmpty (first_ones [] trees)
first_not_empty [] h = absurd h
first_not_empty (tree ∷ trees) h = tt

-- with a number there is one
number_not_empty : (w n : ℕ) (trees : List Tree) → NotEmpty (number_before w n trees)
number_not_empty w n [] = tt
number_not_empty w n (tree ∷ trees) =
    elim (number_of tree) as (λ o. NotEmpty (least_before w n tree o trees)) [ None ↦ tt | Some m ↦ tt ]

-- neighbours are joined to some
neighbours_not_empty : (w : ℕ) (trees : List Tree) → NotEmpty trees → NotEmpty (neighbours_joined w trees)
neighbours_not_empty w [] h = absurd h
neighbours_not_empty w (tree ∷ trees) h =
    elim (number_of tree) as (λ o. NotEmpty (tree_before w tree o (neighbours_joined w trees))) [
      | None ↦ tt
      | Some n ↦ number_not_empty w n (neighbours_joined w trees)
    ]

-- a first 0 is one
zero_not_empty : (trees : List Tree) → NotEmpty trees → NotEmpty (from_zero trees)
zero_not_empty [] h = absurd h
zero_not_empty (tree ∷ trees) h = cond_both (is_zero tree) (tree ∷ []) (tree ∷ trees) NotEmpty (λ _. tt) (λ _. tt)

-- the parts of two trees
both_parts : (w : ℕ) (first second : Tree)
    → IsTreeOf w first
    → IsTreeOf w second
    → AreTreesOf w (flattened kind.Seq first ++ flattened kind.Seq second)
both_parts w first second f s =
    both_are_trees w (flattened kind.Seq first) (flattened kind.Seq second)
    (flattened_are_trees kind.Seq w first tt f) (flattened_are_trees kind.Seq w second tt s)

-- those of a sequential minimum
sequence_are_trees : (w : ℕ) (first second : Tree)
    → IsTreeOf w first
    → IsTreeOf w second
    → AreTreesOf w (sequence_parts w first second)
sequence_are_trees w first second f s =
    let parts = flattened kind.Seq first ++ flattened kind.Seq second in
    zero_are_trees w (neighbours_joined w (first_ones [] parts)) (neighbours_are_trees w (first_ones [] parts)
    (first_are_trees w [] parts (both_parts w first second f s)))

-- there is one
sequence_not_empty : (w : ℕ) (first second : Tree) → IsTreeOf w first → NotEmpty (sequence_parts w first second)
sequence_not_empty w first second f =
    let parts = flattened kind.Seq first ++ flattened kind.Seq second in
    zero_not_empty (neighbours_joined w (first_ones [] parts)) (neighbours_not_empty w (first_ones [] parts)
    (first_not_empty parts (both_not_empty (flattened kind.Seq first) (flattened kind.Seq second)
    (flattened_not_empty kind.Seq w first tt f))))

-- a sequential minimum of canonical trees is one
pub sequence_is_tree : (w : ℕ) (first second out : Tree)
    → 0 < w
    → IsTreeOf w first
    → IsTreeOf w second
    → tree_sequence w first second ≡ Done out
    → IsTreeOf w out
unfolding tree_sequence
sequence_is_tree w first second out some f s h =
    of_parts_is_tree kind.Seq w (sequence_parts w first second) out tt some (sequence_not_empty w first second f)
    (sequence_are_trees w first second f s) h

-- ---- values, one after another

-- the lesser of two, which is 0 where the first is, whatever the second
abbrev pub chain : Option ℕ → Option ℕ → Option ℕ
chain (Some zero) y = Some zero
chain x y = lifted min x y

-- where the first isn't 0 it is the lesser
chain_lesser : (n : ℕ) (y : Option ℕ) → 0 < n → chain (Some n) y ≡ lifted min (Some n) y
chain_lesser zero y some = absurd (omega arith)
chain_lesser (suc n) y some = refl

-- of two numbers it always is
chain_numbers : (m n : ℕ) → chain (Some m) (Some n) ≡ Some (min m n)
chain_numbers zero n = ap Some (let least : 0 ≡ min 0 n = omega arith in least)
chain_numbers (suc m) n = refl

-- three, in either grouping
pub chain_grouped : (x y z : Option ℕ) → chain (chain x y) z ≡ chain x (chain y z)
chain_grouped None y z = refl
chain_grouped (Some zero) y z = refl
chain_grouped (Some (suc a)) None z = refl
chain_grouped (Some (suc a)) (Some zero) z =
    let none : min (suc a) 0 ≡ 0 = omega arith in
    ap (λ n. chain (Some n) z) none ∙ sym (ap Some none)
chain_grouped (Some (suc a)) (Some (suc b)) None = chain_lesser (min (suc a) (suc b)) None (omega arith)
chain_grouped (Some (suc a)) (Some (suc b)) (Some c) =
    let same : min (min (suc a) (suc b)) c ≡ min (suc a) (min (suc b) c) = omega arith in
    chain_lesser (min (suc a) (suc b)) (Some c) (omega arith) ∙ ap Some same

-- one twice
chain_once : (x : Option ℕ) → chain x x ≡ x
chain_once None = refl
chain_once (Some zero) = refl
chain_once (Some (suc a)) = ap Some (let same : min (suc a) (suc a) ≡ suc a = omega arith in same)

-- one again behind another
chain_again : (x y : Option ℕ) → chain x (chain y x) ≡ chain x y
chain_again None y = refl
chain_again (Some zero) y = refl
chain_again (Some (suc a)) None = refl
chain_again (Some (suc a)) (Some zero) = refl
chain_again (Some (suc a)) (Some (suc b)) =
    ap Some (let same : min (suc a) (min (suc b) (suc a)) ≡ min (suc a) (suc b) = omega arith in same)

-- the least of a list, by its first
pub least_first : (x y : Option ℕ) (xs : List (Option ℕ))
    → least_in_sequence (x ∷ y ∷ xs) ≡ chain x (least_in_sequence (y ∷ xs))
least_first None y xs = refl
least_first (Some zero) y xs = refl
least_first (Some (suc n)) y xs = refl

-- ---- values of trees

module _ (held : ℕ → Option ℕ) (turns : ℕ → ℕ) (w : ℕ) (some : 0 < w) where
  -- before the greatest number
  chain_most : (x : Option ℕ) → IsBelow w x → chain x (Some (2 ^ w - 1)) ≡ x
  chain_most None h = refl
  chain_most (Some n) h =
      chain_numbers n (2 ^ w - 1) ∙ ap Some (let same : min n (2 ^ w - 1) ≡ n = omega arith in same)

  -- and behind it
  most_chain : (x : Option ℕ) → IsBelow w x → chain (Some (2 ^ w - 1)) x ≡ x
  most_chain None h = chain_lesser (2 ^ w - 1) None (omega (arith, pow_below 0 w some))
  most_chain (Some n) h =
      chain_numbers (2 ^ w - 1) n ∙ ap Some (let same : min (2 ^ w - 1) n ≡ n = omega arith in same)

  -- the least of the values of trees, up to a 0, from the greatest number
  abbrev all_least : List Tree → Option ℕ
  all_least [] = Some (2 ^ w - 1)
  all_least (tree ∷ trees) = chain (tree_value held turns tree) (all_least trees)

  -- one number that is below, and another that may be none
  chain_below : (x y : Option ℕ) → IsBelow w x → IsBelow w y → IsBelow w (chain x y)
  chain_below None y h h' = tt
  chain_below (Some zero) y h h' = h
  chain_below (Some (suc a)) None h h' = tt
  chain_below (Some (suc a)) (Some b) h h' =
      let least : min (suc a) b < 2 ^ w = omega arith in
      least

  -- the least of trees
  least_below : (trees : List Tree) → AreTreesOf w trees → IsBelow w (all_least trees)
  least_below [] h =
      let most : 2 ^ w - 1 < 2 ^ w = omega (arith, pow_below 0 w some) in
      most
  least_below (tree ∷ trees) h =
      chain_below (tree_value held turns tree) (all_least trees) (value_below held turns w tree h.0)
      (least_below trees h.1)

  -- the values of some trees, one after another
  sequence_least : (trees : List Tree)
      → NotEmpty trees
      → AreTreesOf w trees
      → least_in_sequence (map (tree_value held turns) trees) ≡ all_least trees
  sequence_least [] filled h = absurd filled
  sequence_least (tree ∷ []) filled h =
      sym (chain_most (tree_value held turns tree) (value_below held turns w tree h.0))
  sequence_least (tree ∷ other ∷ trees) filled h =
      least_first (tree_value held turns tree) (tree_value held turns other) (map (tree_value held turns) trees)
      ∙ ap (chain (tree_value held turns tree)) (sequence_least (other ∷ trees) tt h.1)

  -- trees behind trees
  both_least : (xs ys : List Tree)
      → AreTreesOf w ys
      → all_least (xs ++ ys) ≡ chain (all_least xs) (all_least ys)
  both_least [] ys h = sym (most_chain (all_least ys) (least_below ys h))
  both_least (x ∷ xs) ys h =
      ap (chain (tree_value held turns x)) (both_least xs ys h)
      ∙ sym (chain_grouped (tree_value held turns x) (all_least xs) (all_least ys))

  -- ---- each the first time

  -- none of the trees changes what stands before
  abbrev AreCounted : Option ℕ → List Tree → Type 0
  AreCounted x [] = Unit {0}
  AreCounted x (tree ∷ trees) = (chain x (tree_value held turns tree) ≡ x) × AreCounted x trees

  -- nor does one among them
  among_counted : (x : Option ℕ) (tree : Tree) (trees : List Tree)
      → is_among tree trees ≡ true
      → AreCounted x trees
      → chain x (tree_value held turns tree) ≡ x
  among_counted x tree [] among h = absurd cc
  among_counted x tree (other ∷ trees) among h =
      cond_both (same_tree tree other) true (is_among tree trees)
      (λ b. b ≡ true → chain x (tree_value held turns tree) ≡ x)
      (λ told _.
      let one = one_tree tree other (told_same (tree_code tree) (tree_code other) told) in
      ap (λ t. chain x (tree_value held turns t)) one ∙ h.0)
      (λ _ later. among_counted x tree trees later h.1)
      among

  -- what doesn't change the first doesn't with another behind it
  counted_more : (x y z : Option ℕ) → chain x z ≡ x → chain (chain x y) z ≡ chain x y
  counted_more x y z h =
      sym (ap (λ u. chain (chain u y) z) h) ∙ ap (λ u. chain u z) (chain_grouped x z y)
      ∙ chain_grouped x (chain z y) z ∙ ap (chain x) (chain_grouped z y z ∙ chain_again z y)
      ∙ sym (chain_grouped x z y) ∙ ap (λ u. chain u y) h

  -- the same of all trees
  all_counted : (x y : Option ℕ) (trees : List Tree) → AreCounted x trees → AreCounted (chain x y) trees
  all_counted x y [] h = tt
  all_counted x y (tree ∷ trees) h =
      (counted_more x y (tree_value held turns tree) h.0, all_counted x y trees h.1)

  -- so trees that stand among those before may go
  first_least : (x : Option ℕ) (before trees : List Tree)
      → AreCounted x before
      → chain x (all_least (first_ones before trees)) ≡ chain x (all_least trees)
  first_least x before [] h = refl
  first_least x before (tree ∷ trees) h =
      let y = tree_value held turns tree in
      cond_both (is_among tree before) _ _ (λ l. chain x (all_least l) ≡ chain x (chain y (all_least trees)))
      (λ among.
      first_least x before trees h
      ∙ sym (ap (λ u. chain u (all_least trees)) (among_counted x tree before among h))
      ∙ chain_grouped x y (all_least trees))
      (λ _.
      let here : chain (chain x y) y ≡ chain x y = chain_grouped x y y ∙ ap (chain x) (chain_once y) in
      sym (chain_grouped x y (all_least (first_ones (tree ∷ before) trees)))
      ∙ first_least (chain x y) (tree ∷ before) trees (here, all_counted x y before h)
      ∙ chain_grouped x y (all_least trees))

  -- ---- numbers

  -- the number of a tree, which is below
  number_same : (tree : Tree) (n : ℕ)
      → IsTreeOf w tree
      → number_of tree ≡ Some n
      → (tree_value held turns tree ≡ Some n) × (n < 2 ^ w)
  number_same tree n is e =
      let number = number_value held turns tree n is.1 e in
      (number.0, subst (λ v. n < 2 ^ v) is.0 number.1)

  -- a number before trees
  number_least : (n : ℕ) (trees : List Tree)
      → n < 2 ^ w
      → AreTreesOf w trees
      → all_least (number_before w n trees) ≡ chain (Some n) (all_least trees)
  number_least n [] fits h = ap (λ u. chain u (Some (2 ^ w - 1))) (constant_same held turns w n fits)
  number_least n (tree ∷ trees) fits h =
      elim (number_of tree) as (λ o. number_of tree ≡ o
      → all_least (least_before w n tree o trees) ≡ chain (Some n) (all_least (tree ∷ trees))) [
        | None ↦ λ _. ap (λ u. chain u (all_least (tree ∷ trees))) (constant_same held turns w n fits)
        | Some m ↦ λ e.
            let number = number_same tree m h.0 e in
            let least : min n m < 2 ^ w = omega arith in
            ap (λ u. chain u (all_least trees)) (constant_same held turns w (min n m) least ∙ sym (chain_numbers n m))
            ∙ chain_grouped (Some n) (Some m) (all_least trees)
            ∙ sym (ap (λ u. chain (Some n) (chain u (all_least trees))) number.0)
      ] refl

  -- neighbouring numbers joined
  neighbours_least : (trees : List Tree) → AreTreesOf w trees → all_least (neighbours_joined w trees) ≡ all_least trees
  neighbours_least [] h = refl
  neighbours_least (tree ∷ trees) h =
      let others = neighbours_joined w trees in
      let same = neighbours_least trees h.1 in
      elim (number_of tree) as (λ o. number_of tree ≡ o
      → all_least (tree_before w tree o others) ≡ all_least (tree ∷ trees)) [
        | None ↦ λ _. ap (chain (tree_value held turns tree)) same
        | Some n ↦ λ e.
            let number = number_same tree n h.0 e in
            number_least n others number.1 (neighbours_are_trees w trees h.1)
            ∙ ap (chain (Some n)) same ∙ sym (ap (λ u. chain u (all_least trees)) number.0)
      ] refl

  -- a first 0 alone
  zero_least : (trees : List Tree) → all_least (from_zero trees) ≡ all_least trees
  zero_least [] = refl
  zero_least (tree ∷ trees) =
      cond_both (is_zero tree) (tree ∷ []) (tree ∷ trees) (λ l. all_least l ≡ all_least (tree ∷ trees))
      (λ none.
      let value = zero_value held turns w tree none in
      ap (λ u. chain u (Some (2 ^ w - 1))) value ∙ sym (ap (λ u. chain u (all_least trees)) value))
      (λ _. refl)

  -- ---- the tree

  -- what is flattened
  flattened_least : (tree : Tree)
      → IsTreeOf w tree
      → all_least (flattened kind.Seq tree) ≡ tree_value held turns tree
  flattened_least tree is =
      flattened_cases kind.Seq w tree
      (λ l. NotEmpty l → AreTreesOf w l → all_least l ≡ tree_value held turns tree) tt is
      (λ _ _. chain_most (tree_value held turns tree) (value_below held turns w tree is))
      (λ parts one two trees filled _.
      sym (sequence_least (trees_of parts) filled trees)
      ∙ sym (ap least_in_sequence (values_of_parts held turns parts))
      ∙ sym (alone_value held turns tree kind.Seq w parts tt is.1 one))
      (flattened_not_empty kind.Seq w tree tt is) (flattened_are_trees kind.Seq w tree tt is)

  -- an atom of trees, or the only one
  of_parts_least : (trees : List Tree) (out : Tree)
      → NotEmpty trees
      → AreTreesOf w trees
      → of_parts kind.Seq w trees ≡ Done out
      → tree_value held turns out ≡ all_least trees
  of_parts_least [] out filled h e = absurd filled
  of_parts_least (only ∷ []) out filled h e =
      let same : out ≡ only = cc in
      ap (tree_value held turns) same
      ∙ sym (chain_most (tree_value held turns only) (value_below held turns w only h.0))
  of_parts_least (first ∷ second ∷ trees) out filled h e =
      let all = first ∷ second ∷ trees in
      made_value held turns kind.Seq w all out tt (has_two kind.Seq w first second trees tt h)
      (trees_are_canonical w all h) e
      ∙ ap least_in_sequence (values_of_trees held turns all)
      ∙ sequence_least all tt h

  -- a sequential minimum has that of the values as its value
  sequence_same : (first second out : Tree)
      → IsTreeOf w first
      → IsTreeOf w second
      → tree_sequence w first second ≡ Done out
      → tree_value held turns out
      ≡ least_in_sequence (tree_value held turns first ∷ tree_value held turns second ∷ [])
  unfolding tree_sequence
  sequence_same first second out f s h =
      let xs = flattened kind.Seq first in
      let ys = flattened kind.Seq second in
      let parts = xs ++ ys in
      let ones = first_ones [] parts in
      let parts_are = both_parts w first second f s in
      let ones_are = first_are_trees w [] parts parts_are in
      of_parts_least (sequence_parts w first second) out (sequence_not_empty w first second f)
      (sequence_are_trees w first second f s) h
      ∙ zero_least (neighbours_joined w ones) ∙ neighbours_least ones ones_are
      ∙ sym (most_chain (all_least ones) (least_below ones ones_are))
      ∙ first_least (Some (2 ^ w - 1)) [] parts tt
      ∙ most_chain (all_least parts) (least_below parts parts_are)
      ∙ both_least xs ys (flattened_are_trees kind.Seq w second tt s)
      ∙ ap (λ u. chain u (all_least ys)) (flattened_least first f)
      ∙ ap (chain (tree_value held turns first)) (flattened_least second s)
      ∙ sym (least_first (tree_value held turns first) (tree_value held turns second) [])

-- a sequential minimum keeps the value
pub sequence_value : (held : ℕ → Option ℕ) (turns : ℕ → ℕ) (w : ℕ) (first second out : Tree) (n : ℕ)
    → 0 < w
    → IsTreeOf w first
    → IsTreeOf w second
    → tree_sequence w first second ≡ Done out
    → least_in_sequence (tree_value held turns first ∷ tree_value held turns second ∷ []) ≡ Some n
    → tree_value held turns out ≡ Some n
sequence_value held turns w first second out n some f s h value =
    sequence_same held turns w some first second out f s h ∙ value
