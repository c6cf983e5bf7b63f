use Rattle.std.proofs.Common.{◌∙◌}
use Rattle.ir_parts.specs.Reading.{left_from}
use Rattle.ir_left_out.proofs.CallFound.{name_read, no_name_read}
use Rattle.ir_left_out.proofs.callees.is_intrinsic.Goals as goal

pub returns-in-Ok : goal.returns-in-Ok
returns-in-Ok c =
    let value = rw c.as_slice.ensures at c.is_intrinsic.ensures in
    value ∙ name_read (left_from c.args.tokens.now c.args.at) _ c.in-Ok.name c.in-Ok.ensures.value

pub returns-in-Err-CannotGoOn : goal.returns-in-Err-CannotGoOn
returns-in-Err-CannotGoOn c =
    let refused = rw c.in-Err-CannotGoOn.field-0-is at c.in-Err-CannotGoOn.ensures.value in
    no_name_read (left_from c.args.tokens.now c.args.at) _ refused.0
