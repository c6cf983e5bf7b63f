use Rattle.ir_names.proofs.ItemsAreNumbered.{items_none, items_one_more, items_all}
use Rattle.ir_names.proofs.module.all_items.Goals as goal

pub loop-next-init : goal.loop-next-init
loop-next-init c = rw c.in_ok-rest.ensures.empty
    (items_none c.args.spoken.now c.args.globals _ _ c.in_ok-rest.ensures.reversed)

pub loop-next-preserved : goal.loop-next-preserved
loop-next-preserved c =
    rw c.in_ok-push.ensures.ok (items_one_more c.args.spoken.now _ _ _ _ _ _ _ _ _ c.loop-next.invariant
    c.in-Some.ensures c.in_ok-after.ensures)

pub returns : goal.returns
returns c = items_all c.args.spoken.now _ _ _ _ _ c.loop-next.invariant c.in_default.ensures.0
