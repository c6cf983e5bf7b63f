use Rattle.std.proofs.Common.{◌≡◌, ◌<◌, sym, subst, true, take, arith}
use Rattle.ir_text.specs.Names.{is_signed_number}
use Rattle.ir_lex.specs.Lengths.{signed_len}
use Rattle.ir_lex.proofs.LongestNumber.{signed_len-is}
use Rattle.ir_lex.proofs.first_token.numeral_or_sign.Goals as goal

pub fits_signed-requires : goal.fits_signed-requires
fits_signed-requires c =
    let s = c.args.bytes.now in
    let some : 0 < signed_len s = omega (arith, c.signed_len-len.ensures.value) in
    subst (λ n. is_signed_number (take n s) ≡ true) (sym c.signed_len-len.ensures.value) (signed_len-is s some).number
