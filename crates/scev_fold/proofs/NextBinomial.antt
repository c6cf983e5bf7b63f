-- How one binomial coefficient comes of the one before it, each as a power of 2 times an odd number.
use Rattle.std.proofs.Common.{◌≡◌, ℕ, zero, suc, ◌+◌, ◌-◌, ◌*◌, ◌/◌, ◌%◌, ◌^◌, ◌<◌, ◌≤◌, inl, inr, sym, ap, ◌∙◌, arith}
use Rattle.std.specs.Int.{w64, trailing_zeros}
use Rattle.std.proofs.Math.Nat.{div-add-mod, mul-mod_right, mul_comm}
use Rattle.std.proofs.lemmas.Bool.{cases_lt}
use Rattle.std.proofs.lemmas.Nat.{pow-add, mul-mod_first}
use Rattle.scev_base.proofs.Congruence.{pow_split, mod-mod_pow, cut_factor}
use Rattle.binomial_eval.specs.Choose.{choose}
use Rattle.binomial_eval.proofs.ChooseLemmas.{choose_one_more}
use Rattle.binomial_eval.proofs.LinearLemmas.{IsSplit, trailing_split, times_one}

-- ---- odd numbers

-- the product of two odd numbers is odd
odd_product : (a p : ℕ) → a % 2 ≡ 1 → p % 2 ≡ 1 → a * p % 2 ≡ 1
odd_product a p h k =
    let whole : a ≡ 2 * (a / 2) + 1 = omega (arith, div-add-mod a 2, h) in
    let split : a * p ≡ 2 * (a / 2 * p) + p = ap (λ (t : ℕ). t * p) whole ∙ omega arith in
    omega (arith, split, k)

-- each factor of an odd number is odd
odd_factor : (c q : ℕ) → c * q % 2 ≡ 1 → c % 2 ≡ 1
odd_factor c q h =
    elim (cases_lt (c % 2) 1) [
      | inl none ↦
          let whole : c ≡ 2 * (c / 2) = omega (arith, div-add-mod c 2, none) in
          let split : c * q ≡ 2 * (c / 2 * q) = ap (λ (t : ℕ). t * q) whole ∙ omega arith in
          absurd (omega (arith, split, h))
      | inr some ↦ omega (arith, some)
    ]

-- a number whose product with an odd one is even
even_factor : (c q m : ℕ) → q % 2 ≡ 1 → c * q ≡ 2 * m → (half : ℕ) × (c ≡ 2 * half) × (half * q ≡ m)
even_factor c q m odd e =
    let whole : c ≡ 2 * (c / 2) = elim (cases_lt (c % 2) 1) [
      | inl none ↦ omega (arith, div-add-mod c 2, none)
      | inr some ↦ absurd (omega (arith, odd_product c q (omega (arith, some)) odd, e))
    ] in
    (c / 2, whole, omega (arith, ap (λ (t : ℕ). t * q) whole, e))

-- the next power of 2 is twice as much
pow_more : (e : ℕ) → 2 ^ suc e ≡ 2 * 2 ^ e
pow_more e =
    let more : suc e ≡ 1 + e = omega arith in
    ap (λ (k : ℕ). 2 ^ k) more ∙ pow-add 2 1 e

-- a power of 2 goes over to the other factor of an odd number
divided : (e c q m : ℕ) → q % 2 ≡ 1 → c * q ≡ 2 ^ e * m → (b : ℕ) × (c ≡ 2 ^ e * b) × (b * q ≡ m)
divided zero c q m odd h = (c, omega arith, omega (arith, h))
divided (suc e) c q m odd h =
    let more = pow_more e in
    let half = even_factor c q (2 ^ e * m) odd (omega (arith, h, ap (λ (t : ℕ). t * m) more)) in
    let rest = divided e half.0 q m odd half.2 in
    (rest.0, omega (arith, half.1, rest.1, ap (λ (t : ℕ). t * rest.0) more), rest.2)

-- a product with a power of 2 whose exponent is written in another way
same_power : (j k b c : ℕ) → j ≡ k → c ≡ 2 ^ j * b → c ≡ 2 ^ k * b
same_power j k b c same whole = whole ∙ ap (λ (i : ℕ). 2 ^ i * b) same

-- the powers of 2 and the odd numbers of a quotient
quotient : (c d q e m : ℕ) → q % 2 ≡ 1 → m % 2 ≡ 1 → 2 ^ d * (c * q) ≡ 2 ^ e * m
    → (d ≤ e) × (b : ℕ) × (c ≡ 2 ^ (e - d) * b) × (b * q ≡ m)
quotient c zero q e m odd left h =
    let rest = divided e c q m odd (omega (arith, h)) in
    (omega arith, rest.0, same_power e (e - 0) rest.0 c (omega arith) rest.1, rest.2)
quotient c (suc d) q zero m odd left h =
    absurd (omega (arith, left, h, ap (λ (t : ℕ). t * (c * q)) (pow_more d)))
quotient c (suc d) q (suc e) m odd left h =
    let half : 2 ^ d * (c * q) ≡ 2 ^ e * m = omega (
      arith,
      h,
      ap (λ (t : ℕ). t * (c * q)) (pow_more d),
      ap (λ (t : ℕ). t * m) (pow_more e),
    ) in
    let rest = quotient c d q e m odd left half in
    (omega (arith, rest.0), rest.1, same_power (e - d) (suc e - suc d) rest.1 c (omega arith) rest.2, rest.3)

-- ---- the next coefficient

-- the powers of 2 on both sides
cross : (next y now x d q u p t a both : ℕ) → next * y ≡ now * x → y ≡ d * q → x ≡ u * p → now ≡ t * a
    → both ≡ t * u
    → d * (next * q) ≡ both * (a * p)
cross next y now x d q u p t a both whole by times before power =
    let left : next * y ≡ next * (d * q) = ap (λ (z : ℕ). next * z) by in
    let right : now * x ≡ t * a * (u * p) = ap (λ (z : ℕ). now * z) times ∙ ap (λ (z : ℕ). z * (u * p)) before in
    let all : both * (a * p) ≡ t * u * (a * p) = ap (λ (z : ℕ). z * (a * p)) power in
    omega (arith, left, whole, right, all)

-- a product of three numbers, grouped the other way
group : (x y z : ℕ) → x * y * z ≡ x * (y * z)
group x y z = omega arith

-- the odd number of the next one, by the inverse of the divisor's
pub odd_next : (odd a p q inverse b m : ℕ) → odd ≡ a % m → q * inverse % m ≡ 1 → b * q ≡ a * p
    → odd * p % m * inverse % m ≡ b % m
odd_next odd a p q inverse b m is one whole =
    let before : odd * p * inverse ≡ a % m * (p * inverse) =
    ap (λ (z : ℕ). z * p * inverse) is ∙ group (a % m) p inverse in
    let after : a * (p * inverse) ≡ b * (q * inverse) =
    sym (group a p inverse) ∙ ap (λ (z : ℕ). z * inverse) (sym whole) ∙ group b q inverse in
    mul-mod_first (odd * p) inverse m
    ∙ ap (λ (z : ℕ). z % m) before
    ∙ mul-mod_first a (p * inverse) m
    ∙ ap (λ (z : ℕ). z % m) after
    ∙ times_one b (q * inverse) m one

module _ (n k t a : ℕ) (before : choose n k ≡ 2 ^ t * a) (odd : a % 2 ≡ 1) (below : k < n) (small : n < 2 ^ 64) where
  -- the factor n - k as a power of 2 times an odd number
  times : IsSplit 64 (trailing_zeros w64 (n - k)) (n - k)
  times = trailing_split 64 (n - k) (omega arith) (λ none. omega (arith, none, below)) (omega (arith, small))

  -- and the divisor k + 1
  pub by : IsSplit 64 (trailing_zeros w64 (k + 1)) (k + 1)
  by = trailing_split 64 (k + 1) (omega arith) (λ none. omega (arith, none)) (omega (arith, small, below))

  -- each step adds fewer than 64 to the power
  pub few : trailing_zeros w64 (n - k) < 64
  few = times.fewer

  -- the next coefficient as a power of 2 times a number, whose product with the divisor's odd number is that of the
  -- two odd numbers before
  pub next : (trailing_zeros w64 (k + 1) ≤ t + trailing_zeros w64 (n - k))
      × (b : ℕ)
      × (choose n (k + 1) ≡ 2 ^ (t + trailing_zeros w64 (n - k) - trailing_zeros w64 (k + 1)) * b)
      × (b * ((k + 1) / 2 ^ trailing_zeros w64 (k + 1)) ≡ a * ((n - k) / 2 ^ trailing_zeros w64 (n - k)))
  next =
      let u = trailing_zeros w64 (n - k) in
      let d = trailing_zeros w64 (k + 1) in
      let p = (n - k) / 2 ^ u in
      let q = (k + 1) / 2 ^ d in
      let more : k + 1 ≡ suc k = omega arith in
      let whole = ap (λ (j : ℕ). choose n j * j) more ∙ choose_one_more n k in
      quotient (choose n (k + 1)) d q (t + u) (a * p) by.odd (odd_product a p odd times.odd)
      (cross (choose n (k + 1)) (k + 1) (choose n k) (n - k) (2 ^ d) q (2 ^ u) p (2 ^ t) a (2 ^ (t + u)) whole
      by.split times.split before (pow-add 2 t u))

  -- and that number is odd
  pub next_odd : next.1 % 2 ≡ 1
  next_odd =
      let q = (k + 1) / 2 ^ trailing_zeros w64 (k + 1) in
      let p = (n - k) / 2 ^ trailing_zeros w64 (n - k) in
      odd_factor next.1 q (ap (λ (z : ℕ). z % 2) next.3 ∙ odd_product a p odd times.odd)

-- ---- its residue

-- the odd number, moved up by the power of 2
pub shifted : (odd t a w : ℕ) → odd ≡ a % 2 ^ 64 → w ≤ 64 → odd * 2 ^ t % 2 ^ 64 % 2 ^ w ≡ 2 ^ t * a % 2 ^ w
shifted odd t a w e fits =
    let turned = ap (λ (z : ℕ). z * 2 ^ t) e ∙ mul_comm (a % 2 ^ 64) (2 ^ t) in
    mod-mod_pow (odd * 2 ^ t) w 64 fits ∙ ap (λ (z : ℕ). z % 2 ^ w) turned ∙ cut_factor (2 ^ t) a w 64 fits

-- nothing is left of it where the power is above the width
pub moved_out : (t a w : ℕ) → w ≤ t → 0 ≡ 2 ^ t * a % 2 ^ w
moved_out t a w above =
    let rest = 2 ^ (t - w) in
    let group : 2 ^ w * rest * a ≡ 2 ^ w * (rest * a) = omega arith in
    sym (ap (λ (z : ℕ). z * a % 2 ^ w) (pow_split w t above)
    ∙ ap (λ (z : ℕ). z % 2 ^ w) group
    ∙ mul-mod_right (2 ^ w) (rest * a))
