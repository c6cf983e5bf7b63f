use Rattle.classify.proofs.PhiLoops.{first_step}
use Rattle.classify.proofs.first_phis.phis_come_first.Goals as goal

pub loop-instr-preserved : goal.loop-instr-preserved
loop-instr-preserved c =
    first_step c.args.instrs.now c.loop-instr.instr-index c.instr-item.result c.instr-item.result c.loop-instr-test.true c.instr-item.is c.loop-instr.leading c.is_phi-phi.result c.is_phi-phi.ensures c.else-phi.either c.loop-instr.invariant
