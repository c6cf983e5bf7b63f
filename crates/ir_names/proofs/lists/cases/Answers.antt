use Rattle.ir_text.specs.Sites.{bare_case}
use Rattle.ir_names.specs.Parts.{case_sites}
use Rattle.ir_names.proofs.Walking.{walked_none, walked_more, walked_all}
use Rattle.ir_names.proofs.lists.cases.Goals as goal

pub loop-next-init : goal.loop-next-init
loop-next-init c = rw c.in_ok-rest.ensures.empty
    (walked_none case_sites bare_case _ _ _ _ c.in_ok-rest.ensures.reversed)

pub loop-next-preserved : goal.loop-next-preserved
loop-next-preserved c =
    rw c.in_ok-push.ensures.ok (walked_more case_sites bare_case c.loop-next.invariant c.in-Some.ensures
    c.in_ok-case.ensures)

pub returns : goal.returns
returns c = walked_all case_sites bare_case c.loop-next.invariant c.in_default.ensures.0
