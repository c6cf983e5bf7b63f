use Rattle.ir_text.specs.Sites.{bare_param}
use Rattle.ir_names.specs.Parts.{param_sites}
use Rattle.ir_names.proofs.Walking.{walked_none, walked_more, walked_all}
use Rattle.ir_names.proofs.walk.params.Goals as goal

pub loop-next-init : goal.loop-next-init
loop-next-init c = rw c.in_ok-rest.ensures.empty
    (walked_none param_sites bare_param _ _ _ _ c.in_ok-rest.ensures.reversed)

pub loop-next-preserved : goal.loop-next-preserved
loop-next-preserved c =
    rw c.in_ok-push.ensures.ok (walked_more param_sites bare_param c.loop-next.invariant c.in-Some.ensures
    c.in_ok-param.ensures)

pub returns : goal.returns
returns c = walked_all param_sites bare_param c.loop-next.invariant c.in_default.ensures.0
