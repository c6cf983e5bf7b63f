use Rattle.std.proofs.Common.{◌≡◌, drop}
use Rattle.ir_check.proofs.FirstBreaking.{first_in}
use Rattle.ir_check.proofs.instrs.first_breaking.Given as goal

abbrev pub invariant-loop-block : goal.invariant-loop-block
invariant-loop-block l = first_in l.callees l.f l.rule (drop l.block-index l.block-items)
    ≡ first_in l.callees l.f l.rule l.block-items
