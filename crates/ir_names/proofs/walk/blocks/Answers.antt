use Rattle.ir_model.specs.Sites.{block_sites}
use Rattle.ir_text.specs.Sites.{bare_block}
use Rattle.ir_names.proofs.Walking.{walked_none, walked_more, walked_all}
use Rattle.ir_names.proofs.walk.blocks.Goals as goal

pub loop-next-init : goal.loop-next-init
loop-next-init c = rw c.in_ok-rest.ensures.empty
    (walked_none block_sites bare_block _ _ _ _ c.in_ok-rest.ensures.reversed)

pub loop-next-preserved : goal.loop-next-preserved
loop-next-preserved c =
    rw c.in_ok-push.ensures.ok (walked_more block_sites bare_block c.loop-next.invariant c.in-Some.ensures
    c.in_ok-block.ensures)

pub returns : goal.returns
returns c = walked_all block_sites bare_block c.loop-next.invariant c.in_default.ensures.0
