-- Pascal's rule, and the binomial coefficients as products divided by factorials.
use Rattle.std.proofs.Common.{◌≡◌, ℕ, zero, suc, ◌+◌, ◌-◌, ◌*◌, ◌<◌, inl, inr, refl, ap, arith}
use Rattle.std.proofs.lemmas.Bool.{cases_lt}
use Rattle.binomial_eval.specs.Choose.{choose}
use Rattle.binomial_eval.specs.Factorial.{factorial}

-- there is one way to choose nothing
pub choose-zero : (n : ℕ) → choose n 0 ≡ 1
unfolding choose
choose-zero zero = refl
choose-zero (suc n) = refl

-- and none to choose something of nothing
pub zero_choose : (k : ℕ) → 0 < k → choose 0 k ≡ 0
unfolding choose
zero_choose zero h = absurd (omega arith)
zero_choose (suc k) h = refl

-- Pascal's rule
pub choose-suc : (n k : ℕ) → choose (suc n) (suc k) ≡ choose n k + choose n (suc k)
unfolding choose
choose-suc n k = refl

-- no more things can be chosen than there are
choose_too_many : (n k : ℕ) → n < k → choose n k ≡ 0
choose_too_many zero k more = zero_choose k more
choose_too_many (suc n) zero more = absurd (omega arith)
choose_too_many (suc n) (suc k) more =
    rw (choose-suc n k, choose_too_many n k (omega arith), choose_too_many n (suc k) (omega arith)) refl

-- one of the coefficients times what is left of the things, by cases on whether something is left
one_less : (n k c : ℕ) → (n < suc k → c ≡ 0) → c * suc (suc k) + c * (n - suc k) ≡ c * suc k + c * (n - k)
one_less n k c none =
    elim (cases_lt n (suc k)) [
      | inl few ↦ rw (none few) (omega arith)
      | inr enough ↦
          let rest : n - k ≡ suc (n - suc k) = omega arith in
          rw rest (omega arith)
    ]

-- to choose one more thing: any of those that are left, in any place
pub choose_one_more : (n k : ℕ) → choose n (suc k) * suc k ≡ choose n k * (n - k)
choose_one_more zero k =
    let none : 0 - k ≡ 0 = omega arith in
    rw (zero_choose (suc k) (omega arith), none) (omega arith)
choose_one_more (suc n) zero =
    let before = choose_one_more n zero in
    let first = choose-zero n in
    rw (choose-suc n 0, choose-zero (suc n), first) (omega (arith, rw first at before))
choose_one_more (suc n) (suc k) =
    let less : suc n - suc k ≡ n - k = omega arith in
    let before = choose_one_more n k in
    let here = choose_one_more n (suc k) in
    let count = one_less n k (choose n (suc k)) (choose_too_many n (suc k)) in
    rw (choose-suc n (suc k), choose-suc n k, less) (omega (arith, before, here, count))

-- an empty product
pub factorial-zero : factorial 0 ≡ 1
unfolding factorial
factorial-zero = refl

-- one more factor of a factorial
factorial-suc : (k : ℕ) → factorial (suc k) ≡ suc k * factorial k
unfolding factorial
factorial-suc k = refl

-- A coefficient times the factorial is the product of so many numbers from n down: it is 1 for none of them,
-- and each one more is a factor.
pub product_one_more : (n k : ℕ) → choose n (suc k) * factorial (suc k) ≡ choose n k * factorial k * (n - k)
product_one_more n k =
    rw (factorial-suc k) (omega (arith, ap (λ (c : ℕ). c * factorial k) (choose_one_more n k)))
