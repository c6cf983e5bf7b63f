-- `lower` is a strict total order on lists, and `same_code` tells whether two are one.
use Rattle.std.proofs.Common.{◌≡◌, ℕ, ◌<◌, Bool, true, false, ◌&&◌, ◌||◌, nat_lt, ◌==◌, ◌⊎◌, inl, inr}
use Rattle.std.proofs.Common.{List, [], ◌∷◌, refl, sym, ap, ◌∙◌, subst, arith}
use Rattle.std.proofs.lemmas.Bool.Decides.{nat_tests}
use Rattle.std.specs.Bool.{Decides}
use Rattle.std.proofs.lemmas.Bool.{cases_order}
use Rattle.scev_tree.specs.Order.{lower, same_code}

-- the lower first number decides
pub lower_first : (m n : ℕ) (b : Bool) → m < n → (nat_lt m n || ((m == n) && b)) ≡ true
lower_first m n b h = grind (arith, nat_tests)

-- a higher first number decides too
pub higher_first : (m n : ℕ) (b : Bool) → n < m → (nat_lt m n || ((m == n) && b)) ≡ false
higher_first m n b h = grind (arith, nat_tests)

-- of one first number the rest decides
pub same_first : (m n : ℕ) (b : Bool) → m ≡ n → (nat_lt m n || ((m == n) && b)) ≡ b
same_first m n b h = grind (arith, nat_tests)

-- the first numbers of two lists of which one is lower, or these are one and it is lower behind them
pub lower_cases : (m n : ℕ) (ms ns : List ℕ)
    → lower (m ∷ ms) (n ∷ ns) ≡ true
    → (m < n) ⊎ ((m ≡ n) × (lower ms ns ≡ true))
lower_cases m n ms ns h =
    elim (cases_order m n) [
      | inl e ↦ inr (e, sym (same_first m n (lower ms ns) e) ∙ h)
      | inr o ↦ elim o [
        | inl lt ↦ inl lt
        | inr gt ↦ absurd (let no = higher_first m n (lower ms ns) gt in cc)
      ]
    ]

-- no list is lower than itself
pub never_lower : (code : List ℕ) → lower code code ≡ false
never_lower [] = refl
never_lower (n ∷ code) = same_first n n (lower code code) refl ∙ never_lower code

-- what is lower than a lower list is lower
pub lower_again : (xs ys zs : List ℕ)
    → lower xs ys ≡ true
    → lower ys zs ≡ true
    → lower xs zs ≡ true
lower_again xs [] zs h h' = absurd cc
lower_again xs (y ∷ ys) [] h h' = absurd cc
lower_again [] (y ∷ ys) (z ∷ zs) h h' = refl
lower_again (x ∷ xs) (y ∷ ys) (z ∷ zs) h h' =
    elim (lower_cases x y xs ys h) [
      | inl lt ↦ lower_first x z (lower xs zs) (elim (lower_cases y z ys zs h') [
        | inl lt' ↦ omega arith
        | inr e' ↦ omega (arith, e'.0)
      ])
      | inr e ↦ elim (lower_cases y z ys zs h') [
        | inl lt' ↦ lower_first x z (lower xs zs) (omega (arith, e.0))
        | inr e' ↦ same_first x z (lower xs zs) (e.0 ∙ e'.0) ∙ lower_again xs ys zs e.1 e'.1
      ]
    ]

-- two lists are one, or the first is lower, or the second
pub cases_lower : (xs ys : List ℕ) → (xs ≡ ys) ⊎ ((lower xs ys ≡ true) ⊎ (lower ys xs ≡ true))
cases_lower [] [] = inl refl
cases_lower [] (y ∷ ys) = inr (inl refl)
cases_lower (x ∷ xs) [] = inr (inr refl)
cases_lower (x ∷ xs) (y ∷ ys) =
    elim (cases_order x y) [
      | inl e ↦ elim (cases_lower xs ys) [
        | inl e' ↦ inl (cc)
        | inr o ↦ elim o [
          | inl h ↦ inr (inl (same_first x y (lower xs ys) e ∙ h))
          | inr h ↦ inr (inr (same_first y x (lower ys xs) (sym e) ∙ h))
        ]
      ]
      | inr o ↦ elim o [
        | inl lt ↦ inr (inl (lower_first x y (lower xs ys) lt))
        | inr gt ↦ inr (inr (lower_first y x (lower ys xs) gt))
      ]
    ]

-- of two lists at most one is lower
pub never_both : (xs ys : List ℕ) → lower xs ys ≡ true → lower ys xs ≡ false
never_both xs ys h =
    let none = never_lower xs in
    elim (lower ys xs) as (λ b. lower ys xs ≡ b → b ≡ false) [
      | true ↦ λ h'. let again = lower_again xs ys xs h h' in absurd cc
      | false ↦ λ h'. refl
    ] refl

-- lists of which none is lower are one
pub neither_lower : (xs ys : List ℕ) → lower xs ys ≡ false → lower ys xs ≡ false → xs ≡ ys
neither_lower xs ys h h' =
    elim (cases_lower xs ys) [
      | inl e ↦ e
      | inr o ↦ elim o [ inl l ↦ absurd cc | inr l ↦ absurd cc ]
    ]

-- what isn't lower than one list isn't lower than a list that is lower than that
pub from_again : (xs ys zs : List ℕ)
    → lower ys xs ≡ false
    → lower zs ys ≡ false
    → lower zs xs ≡ false
from_again xs ys zs h h' =
    elim (lower zs xs) as (λ b. lower zs xs ≡ b → b ≡ false) [
      | true ↦ λ below. elim (cases_lower ys xs) [
        | inl e ↦ absurd (let same : lower zs ys ≡ lower zs xs = ap (lower zs) e in cc)
        | inr o ↦ elim o [
          | inl l ↦ absurd cc
          | inr l ↦ absurd (let again = lower_again zs xs ys below l in cc)
        ]
      ]
      | false ↦ λ _. refl
    ] refl

-- codes that are told to be one are
pub told_same : (xs ys : List ℕ) → same_code xs ys ≡ true → xs ≡ ys
told_same [] [] h = refl
told_same [] (y ∷ ys) h = absurd cc
told_same (x ∷ xs) [] h = absurd cc
told_same (x ∷ xs) (y ∷ ys) h =
    elim (same_code xs ys) as (λ b. same_code xs ys ≡ b → ((x == y) && b) ≡ true → x ∷ xs ≡ y ∷ ys) [
      | true ↦ λ rest both.
          let first : x ≡ y = grind (arith, nat_tests) in
          let behind = told_same xs ys rest in
          cc
      | false ↦ λ rest both. absurd (grind (arith, nat_tests))
    ] refl h

-- a code is told to be one with itself
pub same_itself : (xs : List ℕ) → same_code xs xs ≡ true
same_itself [] = refl
same_itself (x ∷ xs) = rw (same_itself xs) (grind (arith, nat_tests))

-- codes that are told apart aren't one
pub told_apart : (xs ys : List ℕ) → same_code xs ys ≡ false → xs ≡ ys → ⊥
told_apart xs ys h e =
    let itself = same_itself xs in
    let same : same_code xs xs ≡ same_code xs ys = ap (same_code xs) e in
    cc

-- `same_code` tells exactly whether two codes are one
pub same_code_decides : (xs ys : List ℕ) → Decides (same_code xs ys) (xs ≡ ys)
same_code_decides xs ys =
    (told_same xs ys, λ e. subst (λ zs. same_code xs zs ≡ true) e (same_itself xs))
