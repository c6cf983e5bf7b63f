use Rattle.std.proofs.Common.{arith}
use Rattle.std.proofs.lemmas.List.Sums.{prefix_len-le-length}
use Rattle.ir_text.specs.Bytes.{is_digit}
use Rattle.ir_lex.proofs.lengths.number_len.Goals as goal

pub returns-then-len-le-MOST_DIGITS-clause-within : goal.returns-then-len-le-MOST_DIGITS-clause-within
returns-then-len-le-MOST_DIGITS-clause-within c =
    omega (arith, prefix_len-le-length is_digit c.args.bytes.now, c.digit_run_len-len.ensures)
