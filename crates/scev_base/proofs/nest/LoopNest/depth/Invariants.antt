use Rattle.std.proofs.Common.{◌≡◌, ℕ, ◌+◌, ◌<◌, length}
use Rattle.scev_base.specs.Nest.{Climbs}
use Rattle.scev_base.proofs.NestLemmas.{height}
use Rattle.scev_base.proofs.nest.LoopNest.depth.Given as goal

abbrev pub invariant-loop-parent : goal.invariant-loop-parent
invariant-loop-parent l = record {
  listed : l.at < length l.self;
  walk : (n : ℕ) × (l.depth ≡ n + 1) × Climbs l.self n l.fn.l.0 l.at;
}

abbrev pub decreases-loop-parent : goal.decreases-loop-parent
decreases-loop-parent l = height l.self (length l.self) l.at
