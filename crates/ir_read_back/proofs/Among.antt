-- A thing among others: after a filter, among first occurrences, and its place there.
use Rattle.std.proofs.Common.{◌≡◌, ℕ, suc, ◌+◌, ◌<◌, ◌≤◌, Bool, true, not, List, [], ◌∷◌, ◌++◌, length, Some, ◌⊎◌, sym, ap, subst, inl, inr, slice_get, arith}
use Rattle.std.specs.List.{filter, prefix_len}
use Rattle.ir_grammar.specs.Numbering.{first_occurrences}
use Rattle.ir_printer.proofs.Seen.{tested}

-- The thing is in the list.
abbrev pub Among : {A : Type 0} → List A → A → Type 0
Among [] x = ⊥
Among (y ∷ ys) x = (y ≡ x) ⊎ Among ys x

pub in_first : {A : Type 0} (xs ys : List A) (x : A) → Among xs x → Among (xs ++ ys) x
in_first [] ys x among = absurd among
in_first (z ∷ xs) ys x (inl e) = inl e
in_first (z ∷ xs) ys x (inr among) = inr (in_first xs ys x among)

pub in_second : {A : Type 0} (xs ys : List A) (x : A) → Among ys x → Among (xs ++ ys) x
in_second [] ys x among = among
in_second (z ∷ xs) ys x among = inr (in_second xs ys x among)

-- What passes the test is in the filtered list.
pub in_filter : {A : Type 0} (test : A → Bool) (xs : List A) (x : A) → test x ≡ true → Among xs x
    → Among (filter test xs) x
in_filter test [] x passes among = absurd among
in_filter {A} test (y ∷ ys) x passes (inl e) =
    let same : test y ≡ true = subst (λ (z : A). test z ≡ true) (sym e) passes in
    rw same (inl e)
in_filter test (y ∷ ys) x passes (inr among) = elim (tested (test y)) [
  | inl e ↦ rw e (inr (in_filter test ys x passes among))
  | inr e ↦ rw e (in_filter test ys x passes among)
]

pub filter_shorter : {A : Type 0} (test : A → Bool) (xs : List A) → length (filter test xs) ≤ length xs
filter_shorter test [] = omega arith
filter_shorter test (x ∷ xs) =
    let rest = filter_shorter test xs in
    elim (tested (test x)) [
      | inl e ↦ rw e (omega (arith, rest))
      | inr e ↦ rw e (omega (arith, rest))
    ]

pub first_shorter : {A : Type 0} (same : A → A → Bool) (xs : List A) → length (first_occurrences same xs) ≤ length xs
first_shorter same [] = omega arith
first_shorter same (x ∷ xs) =
    omega (arith, filter_shorter (λ y. not (same x y)) (first_occurrences same xs), first_shorter same xs)

-- `same` tells whether two things are the same.
module _ {A : Type 0} (same : A → A → Bool) (itself : (x : A) → same x x ≡ true)
    (equal : (x y : A) → same x y ≡ true → x ≡ y) where
  pub in_first_occurrences : (xs : List A) (x : A) → Among xs x → Among (first_occurrences same xs) x
  in_first_occurrences [] x among = absurd among
  in_first_occurrences (y ∷ ys) x (inl e) = inl e
  in_first_occurrences (y ∷ ys) x (inr among) = elim (tested (same y x)) [
    | inl e ↦ inl (equal y x e)
    | inr e ↦
        inr (in_filter (λ z. not (same y z)) (first_occurrences same ys) x (ap not e) (in_first_occurrences ys x among))
  ]

  -- The thing stands at its place.
  pub stands_there : (xs : List A) (x : A) → Among xs x
      → slice_get xs (prefix_len (λ y. not (same x y)) xs) ≡ Some x
  stands_there [] x among = absurd among
  stands_there (y ∷ ys) x (inl e) =
      let is : same x y ≡ true = subst (λ (z : A). same x z ≡ true) (sym e) (itself x) in
      rw is (ap (λ (z : A). Some z) e)
  stands_there (y ∷ ys) x (inr among) = elim (tested (same x y)) [
    | inl e ↦ rw e (ap (λ (z : A). Some z) (sym (equal x y e)))
    | inr e ↦
        let place : ℕ = prefix_len (λ z. not (same x z)) ys in
        let next : 1 + place ≡ suc place = omega arith in
        rw (e, next) (stands_there ys x among)
  ]

  pub place_within : (xs : List A) (x : A) → Among xs x → prefix_len (λ y. not (same x y)) xs < length xs
  place_within [] x among = absurd among
  place_within (y ∷ ys) x (inl e) =
      let is : same x y ≡ true = subst (λ (z : A). same x z ≡ true) (sym e) (itself x) in
      rw is (omega arith)
  place_within (y ∷ ys) x (inr among) =
      let rest = place_within ys x among in
      elim (tested (same x y)) [
        | inl e ↦ rw e (omega arith)
        | inr e ↦ rw e (omega (arith, rest))
      ]
