use Rattle.std.proofs.Common.{◌∙◌}
use Rattle.ir_lex.proofs.Fits.{fits_by_value}
use Rattle.ir_lex.proofs.number.fits_signed.Goals as goal

pub returns : goal.returns
returns c =
    let text = c.args.numeral.now in
    c.is_some.ensures ∙ fits_by_value text c.signed_value.result c.requires c.signed_value.ensures
