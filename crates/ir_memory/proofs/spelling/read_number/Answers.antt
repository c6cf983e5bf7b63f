use Rattle.std.proofs.Common.{length, arith, ◌∙◌}
use Rattle.ir_memory.proofs.SpellingLemmas.{spelled_more, below_more_bytes, fits_more_bytes}
use Rattle.ir_memory.proofs.spelling.read_number.Goals as goal

pub overflow_mul-number : goal.overflow_mul-number
overflow_mul-number c =
    let sum =
    fits_more_bytes (length c.args.bytes.now) c.loop-i.i c.loop-i.number 0 c.requires (omega arith) (omega arith)
    c.loop-i.invariant.1 (omega arith) in
    omega (arith, sum)

pub overflow_add-number : goal.overflow_add-number
overflow_add-number c =
    let sum =
    fits_more_bytes (length c.args.bytes.now) c.loop-i.i c.loop-i.number c.from.result c.requires (omega arith)
    (omega arith) c.loop-i.invariant.1 (omega arith) in
    omega (arith, sum)

pub loop-i-preserved : goal.loop-i-preserved
loop-i-preserved c = (
  spelled_more c.args.bytes.now c.loop-i.i c.loop-i.number c.from.result _ (omega arith) (omega arith)
      c.loop-i.invariant.0 (c.from.ensures ∙ c.number.ensures),
  below_more_bytes (length c.args.bytes.now) c.loop-i.i c.loop-i.number c.from.result (omega arith) (omega arith)
      c.loop-i.invariant.1 (omega arith),
)
