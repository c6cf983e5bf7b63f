use Rattle.std.proofs.Common.{◌≡◌, ◌↔◌, List, IsTrue, subst}
use Rattle.ir_model.specs.declared.function.Instr.{Instr}
use Rattle.ir_model.specs.Shapes.{leading_phis}
use Rattle.classify.specs.Recurrence.{phis}
use Rattle.classify.proofs.FirstPhis.{tell_more}
use Rattle.classify.proofs.first_phis.tell_first.Goals as goal

pub loop-block-preserved : goal.loop-block-preserved
loop-block-preserved c =
    let told = subst (λ (instrs : List Instr). IsTrue c.phis_come_first.result ↔ (phis instrs ≡ leading_phis instrs)) c.as_slice.ensures c.phis_come_first.ensures in
    rw c.in_ok-push.ensures.items (tell_more c.args.blocks.now c.loop-block.first.items c.loop-block.block-index c.block-item.result c.phis_come_first.result c.loop-block-test.true c.block-item.is c.loop-block.invariant told)
