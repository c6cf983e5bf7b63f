use Rattle.ir_model.specs.Sites.{instr_sites}
use Rattle.ir_text.specs.Sites.{bare_instr}
use Rattle.ir_names.proofs.Walking.{walked_none, walked_more, walked_all}
use Rattle.ir_names.proofs.walk.instrs.Goals as goal

pub loop-next-init : goal.loop-next-init
loop-next-init c = rw c.in_ok-rest.ensures.empty
    (walked_none instr_sites bare_instr _ _ _ _ c.in_ok-rest.ensures.reversed)

pub loop-next-preserved : goal.loop-next-preserved
loop-next-preserved c =
    rw c.in_ok-push.ensures.ok (walked_more instr_sites bare_instr c.loop-next.invariant c.in-Some.ensures
    c.in_ok-instr.ensures)

pub returns : goal.returns
returns c = walked_all instr_sites bare_instr c.loop-next.invariant c.in_default.ensures.0
