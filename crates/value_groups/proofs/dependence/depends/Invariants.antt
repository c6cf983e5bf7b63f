use Rattle.std.proofs.Common.{take}
use Rattle.value_groups.proofs.Depending.{AreReads}
use Rattle.value_groups.proofs.dependence.depends.Given as goal

abbrev pub invariant-loop-reading : goal.invariant-loop-reading
invariant-loop-reading l = AreReads l.view (take l.reading-index l.reads) l.row.items
