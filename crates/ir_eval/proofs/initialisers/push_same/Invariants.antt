use Rattle.std.proofs.Common.{replicate}
use Rattle.ir_eval.specs.Parts.{GoesOn}
use Rattle.ir_eval.proofs.initialisers.push_same.Given as goal

abbrev pub invariant-loop-byte : goal.invariant-loop-byte
invariant-loop-byte l = GoesOn l.initial.out.items l.out.items (replicate l._byte l.byte)
