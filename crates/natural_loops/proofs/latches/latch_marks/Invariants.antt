use Rattle.std.proofs.Common.{take}
use Rattle.natural_loops.proofs.LatchMarks.{AreLatchMarks}
use Rattle.natural_loops.proofs.latches.latch_marks.Given as goal

abbrev pub invariant-loop-from : goal.invariant-loop-from
invariant-loop-from l = AreLatchMarks l.c.function l.h.0 (take l.from-index l.from-items) l.marks
