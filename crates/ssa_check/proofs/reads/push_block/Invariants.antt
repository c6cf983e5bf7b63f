use Rattle.std.proofs.Common.{◌≡◌, ◌++◌, take}
use Rattle.ir_rules.specs.Uses.{uses_from}
use Rattle.ssa_check.proofs.reads.push_block.Given as goal

abbrev pub invariant-loop-index : goal.invariant-loop-index
invariant-loop-index l = l.out ≡ l.initial.out ++ uses_from l.sizes l.block.id.0 0 (take l.index l.instr-items)
