use Rattle.std.proofs.Common.{rules, ◌≡◌, ◌+◌, suc, length, arith, sym, refl, ◌∙◌}
use Rattle.std.proofs.lemmas.Option.{slice_get_read}
use Rattle.ir_model.proofs.FirstPlaces.{given_behind}
use Rattle.ir_model.proofs.place.given_among.Goals as goal

pub loop-block-preserved : goal.loop-block-preserved
loop-block-preserved c =
    let next : c.loop-block.block-index + 1 ≡ suc c.loop-block.block-index = omega arith in
    let there = slice_get_read c.args.blocks.now (length c.args.blocks.now) c.loop-block.block-index
    c.block-item.result refl c.loop-block-test.true c.block-item.is in
    rw next (sym (given_behind c.args.blocks.now c.loop-block.block-index c.args.v.0 c.block-item.result there
    (search rules)) ∙ c.loop-block.invariant)
