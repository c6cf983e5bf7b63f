-- Integers of a width as residues, and their signed reading.
use Rattle.std.specs.Prelude.{ℕ, ◌-◌, ◌+◌, ◌*◌, ◌^◌, ◌%◌, if◌then◌else◌, nat_lt, ℤ, pos, negsuc, neg_ℤ}

-- the residue of a number modulo 2^w
abbrev pub residue : ℕ → ℤ → ℕ
residue w (pos n) = n % 2 ^ w
residue w (negsuc n) = 2 ^ w - (n % 2 ^ w + 1)

-- the number from -2^(w-1) to 2^(w-1) - 1 that has this residue modulo 2^w
abbrev pub reading : ℕ → ℕ → ℤ
reading w r = if nat_lt (2 * r) (2 ^ w) then pos r else neg_ℤ (pos (2 ^ w - r))
