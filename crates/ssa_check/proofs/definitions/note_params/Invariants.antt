use Rattle.std.proofs.Common.{take}
use Rattle.ssa_check.proofs.DefinitionLemmas.{AreParams}
use Rattle.ssa_check.proofs.definitions.note_params.Given as goal

abbrev pub invariant-loop-param : goal.invariant-loop-param
invariant-loop-param l = AreParams (take l.param-index l.params) l.initial.table.items l.table.items
