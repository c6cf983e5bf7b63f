use Rattle.std.proofs.Common.{take}
use Rattle.natural_loops.proofs.Finding.{AreFoundBehind}
use Rattle.natural_loops.proofs.blocks.blocks_of.Given as goal

abbrev pub invariant-loop-latch : goal.invariant-loop-latch
invariant-loop-latch l =
    AreFoundBehind l.c.function l.fn.h.0 l.backward (take l.latch-index l.latches) l.marks
