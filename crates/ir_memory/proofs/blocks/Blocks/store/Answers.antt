use Rattle.std.proofs.Common.{◌≡◌, ◌<◌, [], length, refl}
use Rattle.std.proofs.lemmas.List.{get_or_read_under}
use Rattle.ir_memory.specs.Memory.{block_at}
use Rattle.ir_memory.proofs.ByteLemmas.{store_of-bytes}
use Rattle.ir_memory.proofs.blocks.Blocks.store.Goals as goal

pub invariant_of-self : goal.invariant_of-self
invariant_of-self c =
    let memory = c.self.inside.blocks.items in
    let within : c.args.block < length memory = rw c.self.view_is (c.if-not-holds.ensures.0 refl).0 in
    let found : c.index_mut-found.result.now ≡ block_at memory c.args.block =
    get_or_read_under memory c.args.block (length memory) _ [] c.index_mut-found.ensures.value within refl in
    rw (c.store.ensures, found)
    (store_of-bytes memory c.args.block c.args.offset c.args.w.bits c.args.value c.self.invariant)
