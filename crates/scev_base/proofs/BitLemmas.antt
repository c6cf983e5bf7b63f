-- The residue of a number of 128 bits by the bits that hold it.
use Rattle.std.proofs.Common.{◌≡◌, ℕ, suc, ◌+◌, ◌-◌, ◌*◌, ◌/◌, ◌%◌, ◌^◌, ◌<◌, ◌≤◌, ℤ, pos, negsuc, of_z, refl, ap, ◌∙◌, arith}
use Rattle.std.proofs.Math.Nat.{div-add-mod, mod-eq_of_lt}
use Rattle.std.proofs.Math.Pow.{pow_mono}
use Rattle.std.proofs.lemmas.Nat.{pow_pos, mod_below}
use Rattle.std.proofs.lemmas.Int.{ints}
use Rattle.scev_base.specs.Residue.{residue, reading}
use Rattle.scev_base.proofs.Congruence.{mod_same, pow_split}
use Rattle.scev_base.proofs.ReadingLemmas.{reading_low, reading_high}
use mir.Syntax.{w128}
use mir.Val.{SFits}

-- 2^128 - (k + 1) modulo 2^w
negative : (k w : ℕ) → w ≤ 128 → k < 2 ^ 127 → (2 ^ 128 - suc k) % 2 ^ w ≡ 2 ^ w - (k % 2 ^ w + 1)
negative k w small fits =
    let m = 2 ^ w in
    let split : 2 ^ 128 ≡ m * 2 ^ (128 - w) = pow_split w 128 small in
    let below : k % m < m = mod_below k m (pow_pos w) in
    let whole : 2 ^ 128 - suc k + m * (k / m + 1)
    ≡ m - (k % m + 1) + m * 2 ^ (128 - w) = omega (arith, split, div-add-mod k m, below) in
    let least : m - (k % m + 1) < m = omega (arith, below) in
    mod_same (2 ^ 128 - suc k) (m - (k % m + 1)) m (k / m + 1) (2 ^ (128 - w)) whole ∙ mod-eq_of_lt least

-- The bits of a number of 128 bits have its residue.
pub residue_of_bits : (n : ℤ) (w : ℕ) → w ≤ 128 → SFits w128 n → of_z w128 n % 2 ^ w ≡ residue w n
residue_of_bits (pos k) w small fits = refl
residue_of_bits (negsuc k) w small fits = negative k w small fits.sfits

-- At 128 bits and more such a number is the signed reading of its residue.
pub wide : (n : ℤ) (w : ℕ) → 128 ≤ w → SFits w128 n → reading w (residue w n) ≡ n
wide (pos k) w large fits =
    let most : 2 ^ 128 ≤ 2 ^ w = pow_mono {i = 128} {j = w} large in
    let small : k < 2 ^ 127 = fits.sfits in
    let same : k % 2 ^ w ≡ k = mod-eq_of_lt (omega arith) in
    ap (reading w) same ∙ reading_low w k (omega arith)
wide (negsuc k) w large fits =
    let most : 2 ^ 128 ≤ 2 ^ w = pow_mono {i = 128} {j = w} large in
    let small : k < 2 ^ 127 = fits.sfits in
    let same : k % 2 ^ w ≡ k = mod-eq_of_lt (omega arith) in
    let high = reading_high w (2 ^ w - (k + 1)) (omega arith) (omega arith) in
    ap (λ r. reading w (2 ^ w - (r + 1))) same ∙ high ∙ omega (arith, ints)
