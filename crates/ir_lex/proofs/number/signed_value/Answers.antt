use Rattle.std.proofs.Common.{ap, ◌∙◌}
use Rattle.std.specs.List.{list_all}
use Rattle.std.proofs.lemmas.List.{take_rest}
use Rattle.ir_text.specs.Bytes.{is_digit}
use Rattle.ir_lex.proofs.SignedDigits.{signed_digits}
use Rattle.ir_lex.proofs.number.signed_value.Goals as goal

pub unsigned_value-requires : goal.unsigned_value-requires
unsigned_value-requires c =
    let text = c.args.text.now in
    ap (list_all is_digit) (take_rest text 1) ∙ (signed_digits text c.requires).minus c.if-text-eq45.true
