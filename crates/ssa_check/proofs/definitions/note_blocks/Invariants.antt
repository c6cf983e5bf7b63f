use Rattle.std.proofs.Common.{drop, length}
use Rattle.ssa_check.proofs.DefinitionLemmas.{AreNoted}
use Rattle.ssa_check.proofs.definitions.note_blocks.Given as goal

abbrev pub invariant-loop-i : goal.invariant-loop-i
invariant-loop-i l = AreNoted (length l.initial.table.items) (drop l.i l.blocks) l.table.items
