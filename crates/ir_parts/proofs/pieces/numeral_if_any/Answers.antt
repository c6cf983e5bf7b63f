use Rattle.std.proofs.Common.{sym, ap, ◌∙◌}
use Rattle.ir_parts.specs.declared.ending.Ending.TheVariants.{Placing, Placed}
use Rattle.ir_parts.specs.Reading.{left_from, go_on, pure}
use Rattle.ir_parts.specs.WordsReading.{is_numeral, numeral_at, numeral_if_any_at}
use Rattle.ir_parts.proofs.Places.{token_passes}
use Rattle.ir_parts.proofs.Readers.{chosen_first}
use Rattle.ir_parts.proofs.pieces.numeral_if_any.Goals as goal

pub returns-then-starts_numeral-clause-value : goal.returns-then-starts_numeral-clause-value
unfolding numeral_at numeral_if_any_at
returns-then-starts_numeral-clause-value c =
    let passed = sym c.if-starts_numeral.ensures.value in
    chosen_first is_numeral numeral_at (pure Placing) (left_from c.args.tokens.now c.args.from) passed
    ∙ ap (λ r. go_on r (λ x. pure Placed)) (token_passes c.args.tokens.now c.args.from is_numeral passed)
