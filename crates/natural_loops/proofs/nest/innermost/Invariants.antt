use Rattle.std.proofs.Common.{◌≡◌, ◌<◌, ℕ, None, length, get_or}
use Rattle.natural_loops.specs.Table.{IsInnermost}
use Rattle.natural_loops.proofs.nest.innermost.Given as goal

abbrev pub invariant-loop-b : goal.invariant-loop-b
invariant-loop-b l = record {
  size : length l.innermost ≡ l.b;
  each : (k : ℕ) → k < l.b → IsInnermost l.regions k (get_or l.innermost k None);
}
