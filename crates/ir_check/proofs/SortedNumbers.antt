-- Two lists have each number as often where they are one list once they are sorted.
use Rattle.std.proofs.Common.{◌≡◌, ℕ, suc, ◌+◌, ◌<◌, ◌≤◌, ◌==◌, ◌⊎◌, inl, inr, cond, List, [], ◌∷◌, ◌++◌, length}
use Rattle.std.proofs.Common.{get_or, refl, sym, ap, ◌∙◌, subst, arith, ⊎_elim}
use Rattle.std.specs.List.{list_all, All, Contains}
use Rattle.std.specs.List.Sorted.{IsPermutation, IsSorted, IsNonDecreasing}
use Rattle.std.specs.Ordering.{nat_cmp}
use Rattle.std.specs.Bool.{Decides}
use Rattle.std.proofs.lemmas.Bool.{ne_eqb, eq-eqb, cases_lt, cases_eq}
use Rattle.std.proofs.lemmas.Bool.Decides.{Decides-eqb, Decides-by_and, Decides-like}
use Rattle.std.proofs.lemmas.List.Elements.{All-from_get_or, All-contains}
use Rattle.std.proofs.lemmas.List.Sums.{sum_by-cons, sum_by-append}
use Rattle.std.proofs.lemmas.List.Sorted.{sum_by-IsPermutation, IsNonDecreasingBy-from_sort}
use Rattle.ir_rules.specs.Blocks.{occurs, same_numbers}

occurs-cons : (n x : ℕ) (xs : List ℕ) → occurs n (x ∷ xs) ≡ cond (x == n) 1 0 + occurs n xs
occurs-cons n x xs = sum_by-cons (λ other. cond (other == n) 1 0) x xs

occurs-first : (x : ℕ) (xs : List ℕ) → occurs x (x ∷ xs) ≡ 1 + occurs x xs
occurs-first x xs = occurs-cons x x xs ∙ ap (λ b. cond b 1 0 + occurs x xs) (eq-eqb x x refl)

-- a number has as many places in a list as in its permutations
pub occurs-permutation : (n : ℕ) (xs ys : List ℕ) → IsPermutation xs ys → occurs n ys ≡ occurs n xs
occurs-permutation n xs ys moved = sum_by-IsPermutation (λ other. cond (other == n) 1 0) xs ys moved

occurs-other : (n x : ℕ) (xs : List ℕ) → (x ≡ n → ⊥) → occurs n (x ∷ xs) ≡ occurs n xs
occurs-other n x xs apart =
    let e : occurs n (x ∷ xs) ≡ 0 + occurs n xs =
    occurs-cons n x xs ∙ ap (λ b. cond b 1 0 + occurs n xs) (ne_eqb x n apart) in
    omega arith

-- a number below each of a list has no place in it
below_all : (n : ℕ) (xs : List ℕ) → ((i : ℕ) → i < length xs → n < get_or xs i 0) → occurs n xs ≡ 0
below_all n [] below = refl
below_all n (x ∷ xs) below =
    let first : n < x = below 0 (omega arith) in
    occurs-other n x xs (λ (e : x ≡ n). omega arith)
    ∙ below_all n xs (λ i within. below (suc i) (omega arith))

-- the first number of a sorted list is no higher than that of another one that has each number as often
first_least : (x y : ℕ) (xs ys : List ℕ) → IsNonDecreasing (y ∷ ys)
    → ((n : ℕ) → occurs n (x ∷ xs) ≡ occurs n (y ∷ ys)) → y ≤ x
first_least x y xs ys rising same = ⊎_elim
    (λ (lower : x < y).
    let none : occurs x (y ∷ ys) ≡ 0 = below_all x (y ∷ ys)
    (λ i within. let least : y ≤ get_or (y ∷ ys) i 0 = rising 0 i 0 (omega arith) within in omega arith) in
    absurd (omega (arith, same x, none, occurs-first x xs)))
    (λ (e : y ≤ x). e)
    (cases_lt x y)

rest_rising : (x : ℕ) (xs : List ℕ) → IsNonDecreasing (x ∷ xs) → IsNonDecreasing xs
rest_rising x xs rising i j d before within = rising (suc i) (suc j) d (omega arith) (omega arith)

rest_same : (n x : ℕ) (xs ys : List ℕ) → occurs n (x ∷ xs) ≡ occurs n (x ∷ ys) → occurs n xs ≡ occurs n ys
rest_same n x xs ys same = omega (arith, same, occurs-cons n x xs, occurs-cons n x ys)

-- a sorted list is determined by how often it has each number
pub sorted_equal : (xs ys : List ℕ) → IsNonDecreasing xs → IsNonDecreasing ys
    → ((n : ℕ) → occurs n xs ≡ occurs n ys) → xs ≡ ys
sorted_equal [] [] rising rising' same = refl
sorted_equal [] (y ∷ ys) rising rising' same = absurd (omega (arith, same y, occurs-first y ys))
sorted_equal (x ∷ xs) [] rising rising' same = absurd (omega (arith, same x, occurs-first x xs))
sorted_equal (x ∷ xs) (y ∷ ys) rising rising' same =
    let low : y ≤ x = first_least x y xs ys rising' same in
    let high : x ≤ y = first_least y x ys xs rising (λ n. sym (same n)) in
    let first : y ≡ x = omega arith in
    let rest : xs ≡ ys = sorted_equal xs ys (rest_rising x xs rising) (rest_rising y ys rising')
    (λ n. rest_same n x xs ys (subst (λ (z : ℕ). occurs n (x ∷ xs) ≡ occurs n (z ∷ ys)) first (same n))) in
    cc

-- a number is in a list, or has no place in it
place_or_none : (n : ℕ) (xs : List ℕ) → Contains xs n ⊎ (occurs n xs ≡ 0)
place_or_none n [] = inr refl
place_or_none n (x ∷ xs) = ⊎_elim
    (λ (e : x ≡ n). inl (0, omega arith, e))
    (λ (apart : x ≡ n → ⊥). ⊎_elim
    (λ (there : Contains xs n). inl (suc there.0, omega (arith, there.1), there.2))
    (λ (none : occurs n xs ≡ 0). inr (occurs-other n x xs apart ∙ none))
    (place_or_none n xs))
    (cases_eq x n)

-- what `same_numbers` decides
pub same_numbers_decides : (ms ns : List ℕ) → Decides (same_numbers ms ns) ((n : ℕ) → occurs n ms ≡ occurs n ns)
same_numbers_decides ms ns = Decides-like (same_numbers ms ns) everywhere
    (λ (same : (n : ℕ) → occurs n ms ≡ occurs n ns). All-from_get_or (λ n. occurs n ms ≡ occurs n ns) (ms ++ ns) 0
    (λ i within. same (get_or (ms ++ ns) i 0)))
    (Decides-by_and (λ n. occurs n ms == occurs n ns) (λ n. occurs n ms ≡ occurs n ns)
    (list_all (λ n. occurs n ms == occurs n ns)) (λ n. Decides-eqb (occurs n ms) (occurs n ns)) refl (λ _ _. refl)
    (ms ++ ns))
  where
    everywhere : All (λ n. occurs n ms ≡ occurs n ns) (ms ++ ns) → (n : ℕ) → occurs n ms ≡ occurs n ns
    everywhere all n = ⊎_elim
        (λ (there : Contains (ms ++ ns) n). All-contains (λ n. occurs n ms ≡ occurs n ns) (ms ++ ns) n all there)
        (λ (none : occurs n (ms ++ ns) ≡ 0).
        let parts : occurs n (ms ++ ns) ≡ occurs n ms + occurs n ns =
        sum_by-append (λ other. cond (other == n) 1 0) ms ns in
        omega arith)
        (place_or_none n (ms ++ ns))

module _ (ms ns named sources : List ℕ) (moved : IsPermutation ms named) (moved' : IsPermutation ns sources)
    (sorted : IsSorted nat_cmp named) (sorted' : IsSorted nat_cmp sources) where
  -- where they are sorted
  pub same_sorted : Decides (same_numbers ms ns) (named ≡ sources)
  same_sorted = Decides-like (same_numbers ms ns)
      (λ (same : (n : ℕ) → occurs n ms ≡ occurs n ns). sorted_equal named sources
      (IsNonDecreasingBy-from_sort (λ x. x) named sorted) (IsNonDecreasingBy-from_sort (λ x. x) sources sorted')
      (λ n. occurs-permutation n ms named moved ∙ (same n ∙ sym (occurs-permutation n ns sources moved'))))
      (λ (e : named ≡ sources) n. sym (occurs-permutation n ms named moved)
      ∙ (ap (occurs n) e ∙ occurs-permutation n ns sources moved'))
      (same_numbers_decides ms ns)
