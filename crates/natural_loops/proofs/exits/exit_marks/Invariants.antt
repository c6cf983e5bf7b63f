use Rattle.std.proofs.Common.{◌<◌, length}
use Rattle.natural_loops.specs.Sides.{IsExit}
use Rattle.natural_loops.specs.Table.{loop_of}
use Rattle.natural_loops.proofs.Marking.{AreMarks}
use Rattle.natural_loops.proofs.exits.exit_marks.Given as goal

abbrev pub invariant-loop-b : goal.invariant-loop-b
invariant-loop-b l =
    AreMarks (IsExit l.c.function (loop_of l.region)) (length l.c.function.labels) (λ k. k < l.b) l.marks
