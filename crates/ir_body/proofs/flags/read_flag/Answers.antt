use Rattle.std.proofs.Common.{true, false, sym}
use Rattle.ir_parts.specs.Reading.{pure}
use Rattle.ir_body.specs.Flags.{flag_at}
use Rattle.ir_body.proofs.WordFirst.{word_first}
use Rattle.ir_body.proofs.flags.read_flag.Goals as goal

pub returns-then-starts_keyword-clause-value : goal.returns-then-starts_keyword-clause-value
unfolding flag_at
returns-then-starts_keyword-clause-value c =
    word_first c.args.tokens.now c.args.from c.args.text.now (pure true) (pure false)
    (sym c.if-starts_keyword.ensures.value)
