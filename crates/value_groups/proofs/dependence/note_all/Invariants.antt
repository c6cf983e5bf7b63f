use Rattle.std.proofs.Common.{◌≡◌, ◌++◌, take, map}
use Rattle.scev_base.specs.declared.ids.ValueId.{ValueId}
use Rattle.value_groups.proofs.dependence.note_all.Given as goal

abbrev pub invariant-loop-x : goal.invariant-loop-x
invariant-loop-x l = l.row.items ≡ l.initial.row.items ++ map (λ (x : ValueId). x.0) (take l.x-index l.registers)
