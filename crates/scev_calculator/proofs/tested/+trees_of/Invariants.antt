use Rattle.std.proofs.Common.{length}
use Rattle.scev_calculator.proofs.tested.+trees_of.Given as goal

-- Each call has one place less to look at.
abbrev pub decreases-trees_of : goal.decreases-trees_of
decreases-trees_of l = length l.ids.now
