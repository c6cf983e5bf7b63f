use Rattle.ir_model.specs.Sites.{entry_sites}
use Rattle.ir_text.specs.Sites.{bare_entry}
use Rattle.ir_names.proofs.Walking.{walked_none, walked_more, walked_all}
use Rattle.ir_names.proofs.lists.entries.Goals as goal

pub loop-next-init : goal.loop-next-init
loop-next-init c = rw c.in_ok-rest.ensures.empty
    (walked_none entry_sites bare_entry _ _ _ _ c.in_ok-rest.ensures.reversed)

pub loop-next-preserved : goal.loop-next-preserved
loop-next-preserved c =
    rw c.in_ok-push.ensures.ok (walked_more entry_sites bare_entry c.loop-next.invariant c.in-Some.ensures
    c.in_ok-entry.ensures)

pub returns : goal.returns
returns c = walked_all entry_sites bare_entry c.loop-next.invariant c.in_default.ensures.0
