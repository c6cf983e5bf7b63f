-- A number of w bits and its complement.
use Rattle.std.proofs.Common.{◌≡◌, ℕ, zero, suc, ◌+◌, ◌-◌, ◌*◌, ◌/◌, ◌%◌, ◌^◌, ◌<◌, refl, ap, ◌∙◌, arith}
use Rattle.std.proofs.Common.{bit_xor}
use Rattle.std.proofs.Math.Nat.{div-add-mod, pow-suc}
use Rattle.std.proofs.lemmas.Nat.{pow_pos, mod_below, xor_block}

-- one bit and its complement
one_bit : (b : ℕ) → b < 2 → bit_xor b 1 + b ≡ 1
one_bit zero h = refl
one_bit (suc zero) h = refl
one_bit (suc (suc b)) h = absurd (omega arith)

-- the exclusive or with all ones is the rest up to all ones
pub xor_ones : (w m : ℕ) → m < 2 ^ w → bit_xor m (2 ^ w - 1) + m + 1 ≡ 2 ^ w
xor_ones zero zero h = refl
xor_ones zero (suc m) h = absurd (omega arith)
xor_ones (suc w) m h =
    let half = m / 2 in
    let bit = m % 2 in
    let whole = div-add-mod m 2 in
    let more = pow-suc 2 w in
    let least = pow_pos w in
    let below = mod_below m 2 (omega arith) in
    let fits : half < 2 ^ w = omega arith in
    let parts : m ≡ half * 2 ^ 1 + bit = omega arith in
    let ones : 2 ^ suc w - 1 ≡ (2 ^ w - 1) * 2 ^ 1 + 1 = omega arith in
    let split : bit_xor m (2 ^ suc w - 1) ≡ bit_xor half (2 ^ w - 1) * 2 ^ 1 + bit_xor bit 1 =
    ap (λ k. bit_xor k (2 ^ suc w - 1)) parts ∙ ap (bit_xor (half * 2 ^ 1 + bit)) ones
    ∙ xor_block 1 half (2 ^ w - 1) bit 1 below (omega arith) in
    omega (arith, split, xor_ones w half fits, one_bit bit below)
