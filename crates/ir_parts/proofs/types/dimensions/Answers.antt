use Rattle.std.proofs.Common.{ℕ, List, sym, arith}
use Rattle.std.proofs.lemmas.Result.{err_from_is_err_and}
use Rattle.ir_parts.specs.Reading.{left_from, is_punctuation}
use Rattle.ir_parts.specs.TypeReading.{dimension_at, dimensions_at}
use Rattle.ir_parts.proofs.Loops.{repeat_forth, repeat_faults, repeat_ends}
use Rattle.ir_parts.proofs.types.dimensions.Goals as goal

pub returns-in_err-next-clause-value : goal.returns-in_err-next-clause-value
returns-in_err-next-clause-value c =
    let p = err_from_is_err_and c.from_residual.result c.from_residual.ensures.1 in
    rw (p.1, p.2) (repeat_faults (is_punctuation 91) dimension_at (λ (d : ℕ). d) (λ (ds : List ℕ). ds) c.args.tokens.now
    c.in_err-next.field-0.0 c.loop-dims.dims (left_from c.args.tokens.now c.loop-dims.at)
    (dimensions_at (left_from c.args.tokens.now c.args.from)) (sym c.loop-dims-test.ensures.value)
    c.in_err-next.ensures.value c.loop-dims.invariant.reading)

pub loop-dims-preserved : goal.loop-dims-preserved
loop-dims-preserved c = record {
  reading = rw c.in_ok-push.ensures.ok (repeat_forth (is_punctuation 91) dimension_at c.args.tokens.now c.loop-dims.dims
      c.loop-dims.at c.in_ok-next.behind c.in_ok-next.next (dimensions_at (left_from c.args.tokens.now c.args.from))
      c.loop-dims-test.ensures.value c.in_ok-next.ensures.value c.in_ok-next.ensures.forth
      c.loop-dims.invariant.reading);
  forth = omega (arith, c.in_ok-next.ensures.forth, c.loop-dims.invariant.forth);
  within = c.in_ok-next.ensures.forth.1;
}

pub returns-clause-value : goal.returns-clause-value
returns-clause-value c =
    repeat_ends (is_punctuation 91) dimension_at c.loop-dims.dims (left_from c.args.tokens.now c.loop-dims.at)
    (dimensions_at (left_from c.args.tokens.now c.args.from)) (sym c.loop-dims-test.ensures.value)
    c.loop-dims.invariant.reading
