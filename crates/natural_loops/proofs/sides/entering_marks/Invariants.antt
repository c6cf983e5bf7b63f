use Rattle.std.proofs.Common.{Contains, length, take}
use Rattle.flow_graph.specs.EdgeLists.{block_id}
use Rattle.natural_loops.specs.Sides.{IsEntering}
use Rattle.natural_loops.specs.Table.{loop_of}
use Rattle.natural_loops.proofs.Marking.{AreMarks}
use Rattle.natural_loops.proofs.sides.entering_marks.Given as goal

abbrev pub invariant-loop-from : goal.invariant-loop-from
invariant-loop-from l =
    AreMarks (IsEntering l.c.function (loop_of l.region)) (length l.c.function.labels)
    (λ k. Contains (take l.from-index l.from-items) (block_id k)) l.marks
