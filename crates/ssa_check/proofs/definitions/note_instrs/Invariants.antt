use Rattle.std.proofs.Common.{drop}
use Rattle.ssa_check.proofs.DefinitionLemmas.{IsNoted}
use Rattle.ssa_check.proofs.definitions.note_instrs.Given as goal

abbrev pub invariant-loop-i : goal.invariant-loop-i
invariant-loop-i l = IsNoted l.b l.i (drop l.i l.instrs) l.initial.table.items l.table.items
