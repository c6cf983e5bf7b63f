use Rattle.std.proofs.Common.{◌≡◌, drop}
use Rattle.ir_check.proofs.FirstBreaking.{first_of}
use Rattle.ir_check.proofs.instrs.first_in_block.Given as goal

abbrev pub invariant-loop-instr : goal.invariant-loop-instr
invariant-loop-instr l = first_of l.callees l.f l.rule l.block.id.0 (drop l.instr-index l.instr-items)
    ≡ first_of l.callees l.f l.rule l.block.id.0 l.instr-items
