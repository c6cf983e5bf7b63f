use Rattle.std.proofs.Common.{arith, ◌≡◌, ◌+◌, suc, length, None, Some, slice_get, sym, refl, ap, ◌∙◌}
use Rattle.std.proofs.lemmas.Option.{slice_get_read}
use Rattle.ir_rules.specs.Spots.{block_spots}
use Rattle.ir_check.specs.Instrs.{breaking_spots}
use Rattle.ir_check.proofs.FirstBreaking.{first_in, block_behind, block_here}
use Rattle.ir_check.proofs.instrs.first_breaking.Goals as goal

pub loop-block-preserved : goal.loop-block-preserved
loop-block-preserved c =
    let blocks = c.as_slice-block-items.result.now in
    let i = c.loop-block.block-index in
    let next : i + 1 ≡ suc i = omega arith in
    let there =
    slice_get_read blocks (length blocks) i c.block-item.result refl c.loop-block-test.true c.block-item.is in
    let places = breaking_spots c.args.callees.now c.args.f.now c.args.rule (block_spots c.block-item.result) in
    let none : slice_get places 0 ≡ None = sym c.in_ok-place.ensures ∙ c.in-None.is in
    rw next (sym (block_behind c.args.callees.now c.args.f.now c.args.rule blocks i c.block-item.result there none)
    ∙ c.loop-block.invariant)

pub returns-in-Some : goal.returns-in-Some
returns-in-Some c =
    let blocks = c.as_slice-block-items.result.now in
    let i = c.loop-block.block-index in
    let there =
    slice_get_read blocks (length blocks) i c.block-item.result refl c.loop-block-test.true c.block-item.is in
    let places = breaking_spots c.args.callees.now c.args.f.now c.args.rule (block_spots c.block-item.result) in
    let found : slice_get places 0 ≡ Some c.in-Some.place = sym c.in_ok-place.ensures ∙ c.in-Some.is in
    sym (block_here c.args.callees.now c.args.f.now c.args.rule blocks i c.block-item.result c.in-Some.place there
    found)
    ∙ c.loop-block.invariant
    ∙ ap (first_in c.args.callees.now c.args.f.now c.args.rule) c.as_slice-block-items.ensures
