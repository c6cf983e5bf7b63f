use Rattle.natural_loops.proofs.Backwards.{AreReachableBelow}
use Rattle.natural_loops.proofs.backward.reachable_numbers.Given as goal

abbrev pub invariant-loop-b : goal.invariant-loop-b
invariant-loop-b l = AreReachableBelow l.c.function l.b l.nodes.items
