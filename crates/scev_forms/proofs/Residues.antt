-- Residues of whole numbers: of a sum with a multiple, and of those in range of the signed reading.
use Rattle.std.proofs.Common.{◌≡◌, ℕ, suc, ◌+◌, ◌-◌, ◌*◌, ◌/◌, ◌%◌, ◌^◌, ◌<◌}
use Rattle.std.proofs.Common.{ℤ, pos, negsuc, ap, ◌∙◌, arith}
use Rattle.std.specs.Prelude.{◌+ℤ◌, ◌*ℤ◌}
use Rattle.std.proofs.Math.Nat.{div-add-mod, mod-eq_of_lt, pow-suc}
use Rattle.std.proofs.lemmas.Nat.{pow_pos, mod_below}
use Rattle.std.proofs.lemmas.Int.{ints}
use borrow.Author.Differences.{up, down, sum_is_lem, product_is}
use Rattle.scev_base.specs.Residue.{residue, reading}
use Rattle.scev_base.proofs.Congruence.{mod_same}
use Rattle.scev_base.proofs.ReadingLemmas.{reading_low}
use Rattle.scev_forms.specs.Ranges.{IsSigned}
use Rattle.scev_forms.proofs.Readings.{reading_negative}

-- a whole number, which is `up z - down z`, differs from its residue by multiples of the modulus
residue_apart : (w : ℕ) (z : ℤ) → (j : ℕ) × (k : ℕ) × (up z + 2 ^ w * j ≡ residue w z + down z + 2 ^ w * k)
residue_apart w (pos n) = (0, n / 2 ^ w, omega (arith, div-add-mod n (2 ^ w)))
residue_apart w (negsuc n) =
    (n / 2 ^ w + 1, 0, omega (arith, div-add-mod n (2 ^ w), mod_below n (2 ^ w) (pow_pos w)))

-- a number below the modulus that differs from it by multiples of that is its residue
residue_is : (w r j k : ℕ) (z : ℤ) → r < 2 ^ w → up z + 2 ^ w * j ≡ r + down z + 2 ^ w * k → residue w z ≡ r
residue_is w r j k (pos n) below e = mod_same n r (2 ^ w) j k (omega arith) ∙ mod-eq_of_lt below
residue_is w r j k (negsuc n) below e =
    let m = 2 ^ w in
    let rest = m - (r + 1) in
    let same : n % m ≡ rest = mod_same n rest m (k + 1) j (omega arith) ∙ mod-eq_of_lt (omega arith) in
    omega arith

-- a sum with a multiple has the residue of that of the residues
pub residue_affine : (w t : ℕ) (x y : ℤ)
    → residue w (x +ℤ pos t *ℤ y) ≡ (residue w x + t * residue w y) % 2 ^ w
residue_affine w t x y =
    let m = 2 ^ w in
    let first = residue_apart w x in
    let step = residue_apart w y in
    let plain = residue w x + t * residue w y in
    let often = ap (λ k. t * k) step.2 in
    let product = product_is (pos t) y in
    let whole = sum_is_lem x (pos t *ℤ y) in
    residue_is w (plain % m) (first.0 + t * step.0) (first.1 + t * step.1 + plain / m) (x +ℤ pos t *ℤ y)
    (mod_below plain m (pow_pos w))
    (omega (arith, first.2, often, product.0, product.1, whole, div-add-mod plain m))

-- half of the modulus, twice
half_twice : (w : ℕ) → 0 < w → 2 * 2 ^ (w - 1) ≡ 2 ^ w
half_twice w some =
    let more : suc (w - 1) ≡ w = omega arith in
    omega (arith, pow-suc 2 (w - 1), ap (λ k. 2 ^ k) more)

-- a whole number in range is the reading of its residue
pub reading_residue : (w : ℕ) (z : ℤ) → 0 < w → IsSigned w z → reading w (residue w z) ≡ z
reading_residue w (pos n) some fits =
    let half : n < 2 ^ (w - 1) = omega (arith, ints, fits.1) in
    let whole = half_twice w some in
    let same : n % 2 ^ w ≡ n = mod-eq_of_lt (omega arith) in
    ap (reading w) same ∙ reading_low w n (omega arith)
reading_residue w (negsuc n) some fits =
    let half : n < 2 ^ (w - 1) = omega (arith, ints, fits.0) in
    let whole = half_twice w some in
    let same : n % 2 ^ w ≡ n = mod-eq_of_lt (omega arith) in
    ap (λ k. reading w (2 ^ w - (k + 1))) same
    ∙ reading_negative w (2 ^ w - (n + 1)) n (omega arith) (omega arith)
