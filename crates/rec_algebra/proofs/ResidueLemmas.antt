-- Residues of residues.
use Rattle.std.proofs.Common.{◌≡◌, ℕ, ◌+◌, ◌-◌, ◌%◌, ◌^◌, ◌≤◌, ap, ◌∙◌, arith}
use Rattle.std.proofs.Math.Pow.{mod-mod-pow}

-- A number modulo 2^64 has the same lowest bits.
pub low_of_64 : (n w : ℕ) → w ≤ 64 → n % 2 ^ 64 % 2 ^ w ≡ n % 2 ^ w
low_of_64 n w fits =
    let whole : 64 ≡ (64 - w) + w = omega arith in
    ap (λ k. n % 2 ^ k % 2 ^ w) whole ∙ mod-mod-pow n (64 - w) w
