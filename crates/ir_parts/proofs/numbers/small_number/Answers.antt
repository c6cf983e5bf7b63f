use Rattle.std.proofs.Common.{◌+◌, arith}
use Rattle.std.proofs.lemmas.Bool.Decides.{nat_tests}
use Rattle.std.proofs.lemmas.Int.Digits.{digits_value_more}
use Rattle.std.proofs.lemmas.Str.Parse.{digits_value-take-le}
use Rattle.ir_parts.proofs.numbers.small_number.Goals as goal

pub returns-then-size-ge-LIMIT : goal.returns-then-size-ge-LIMIT
returns-then-size-ge-LIMIT c =
    let more = digits_value_more 10 c.args.digits.now c.loop-byte.byte-index c.loop-byte-test.true in
    let within = digits_value-take-le 10 c.args.digits.now (c.loop-byte.byte-index + 1) (omega arith) in
    grind (arith, nat_tests)

pub loop-byte-preserved : goal.loop-byte-preserved
loop-byte-preserved c =
    let more = digits_value_more 10 c.args.digits.now c.loop-byte.byte-index c.loop-byte-test.true in
    record { so_far = omega arith; small = omega arith }
