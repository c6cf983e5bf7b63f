use Rattle.ir_memory.proofs.ByteLemmas.{with_block-bytes}
use Rattle.ir_memory.proofs.blocks.Blocks.add_block.Goals as goal

pub invariant_of-self-2 : goal.invariant_of-self-2
invariant_of-self-2 c =
    rw (c.in_ok-push.ensures.items, c.in_ok-block.ensures)
    (with_block-bytes c.self.inside.blocks.items c.args.size c.self.invariant)
