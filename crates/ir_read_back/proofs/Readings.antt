-- The signed reading of a number of 128 bits is one again, at every width.
use Rattle.std.proofs.Common.{ℕ, ◌*◌, ◌^◌, ◌<◌, ◌≤◌, ℤ, pos, negsuc, arith, subst, sym, ⊎_elim}
use Rattle.std.proofs.Math.Pow.{pow_mono}
use Rattle.std.proofs.lemmas.Bool.{cases_lt}
use Rattle.std.proofs.lemmas.Nat.{pow_pos, mod_below}
use Rattle.std.proofs.lemmas.Int.{ints}
use Rattle.scev_base.specs.Residue.{residue, reading}
use Rattle.scev_base.proofs.ReadingLemmas.{reading_low, reading_high}
use Rattle.ir_text.specs.Tokens.{FitsSigned128}
use Rattle.scev_base.proofs.BitLemmas.{wide}
use mir.Syntax.{w128}
use mir.Val.{SFits}

pub residue_below : (w : ℕ) (n : ℤ) → residue w n < 2 ^ w
residue_below w (pos n) = mod_below n (2 ^ w) (pow_pos w)
residue_below w (negsuc n) = omega (arith, pow_pos w)

-- at fewer than 128 bits
narrow : (w r : ℕ) → w < 128 → r < 2 ^ w → FitsSigned128 (reading w r)
narrow w r small below =
    let most : 2 ^ w ≤ 2 ^ 127 = pow_mono {i = w} {j = 127} (omega arith) in
    ⊎_elim
    (λ (low : 2 * r < 2 ^ w). subst FitsSigned128 (sym (reading_low w r low))
    (omega (arith, ints), omega (arith, ints)))
    (λ (high : 2 ^ w ≤ 2 * r). subst FitsSigned128 (sym (reading_high w r high below))
    (omega (arith, ints), omega (arith, ints)))
    (cases_lt (2 * r) (2 ^ w))

fits_signed : (n : ℤ) → FitsSigned128 n → SFits w128 n
fits_signed (pos n) fits = record { sfits = omega (arith, ints, fits.1) }
fits_signed (negsuc n) fits = record { sfits = omega (arith, ints, fits.0) }

pub reading_fits : (w : ℕ) (n : ℤ) → FitsSigned128 n → FitsSigned128 (reading w (residue w n))
reading_fits w n fits =
    ⊎_elim
    (λ (small : w < 128). narrow w (residue w n) small (residue_below w n))
    (λ (large : 128 ≤ w). subst FitsSigned128 (sym (wide n w large (fits_signed n fits))) fits)
    (cases_lt w 128)
