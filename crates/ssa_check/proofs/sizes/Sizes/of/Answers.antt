use Rattle.std.proofs.Common.{◌-◌, drop, arith}
use Rattle.ssa_check.proofs.BackLemmas.{drop_back}
use Rattle.ssa_check.proofs.SizeLemmas.{label_at, sizes_more}
use Rattle.ssa_check.proofs.sizes.Sizes.of.Goals as goal

pub index_mut-requires : goal.index_mut-requires
index_mut-requires c =
    let blocks = c.as_slice-blocks.result.now in
    let low =
    label_at c.args.f.now c.requires blocks c.as_slice-blocks.ensures (c.loop-i.i - 1) c.index-blocks-i.result
    (omega arith) c.index-blocks-i.is in
    omega (arith, low, c.loop-i.invariant.size)

pub loop-i-preserved : goal.loop-i-preserved
loop-i-preserved c =
    let f = c.args.f.now in
    let block = c.index-blocks-i.result in
    let blocks = c.as_slice-blocks.result.now in
    let i = c.loop-i.i in
    let low = label_at f c.requires blocks c.as_slice-blocks.ensures (i - 1) block (omega arith) c.index-blocks-i.is in
    rw (drop_back blocks i block c.loop-i-test.true c.loop-i.auto.i c.index-blocks-i.is)
    (sizes_more f block (drop i blocks) c.loop-i.sizes.items c.len-in-loop-i.result low c.len-in-loop-i.ensures
    c.loop-i.invariant)
