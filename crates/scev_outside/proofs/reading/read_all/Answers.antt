use Rattle.std.proofs.Common.{◌++◌, take}
use Rattle.scev_outside.proofs.BytesLemmas.{Gave-append}
use Rattle.scev_outside.proofs.reading.read_all.Goals as goal

pub returns-then-count-limit-clause-stands : goal.returns-then-count-limit-clause-stands
returns-then-count-limit-clause-stands g c = (
  c.loop-bytes.bytes.items ++ take c.in_ok-count.count c.read.new.buf,
  Gave-append _ _ _ _ _ c.loop-bytes.invariant.gave c.in_ok-count.ensures.gave,
)

pub returns-in_err-extend_from_slice-clause-stands :
    goal.returns-in_err-extend_from_slice-clause-stands
returns-in_err-extend_from_slice-clause-stands g c = (
  c.loop-bytes.bytes.items ++ take c.in_ok-count.count c.read.new.buf,
  Gave-append _ _ _ _ _ c.loop-bytes.invariant.gave c.in_ok-count.ensures.gave,
)
