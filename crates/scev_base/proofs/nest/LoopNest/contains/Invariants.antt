use Rattle.std.proofs.Common.{◌<◌, length}
use Rattle.scev_base.specs.Nest.{Contains}
use Rattle.scev_base.proofs.NestLemmas.{height}
use Rattle.scev_base.proofs.nest.LoopNest.contains.Given as goal

abbrev pub invariant-loop-at : goal.invariant-loop-at
invariant-loop-at l = record {
  listed : l.at < length l.self;
  out : Contains l.self l.outer.0 l.at → Contains l.self l.outer.0 l.fn.inner.0;
  back : Contains l.self l.outer.0 l.fn.inner.0 → Contains l.self l.outer.0 l.at;
}

abbrev pub decreases-loop-at : goal.decreases-loop-at
decreases-loop-at l = height l.self (length l.self) l.at
