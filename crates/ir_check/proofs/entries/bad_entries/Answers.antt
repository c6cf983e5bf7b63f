use Rattle.std.proofs.Common.{arith, ◌≡◌, ◌<◌, ◌≤◌, length, Some, None, flat_map, slice_get, sym, ap, ◌∙◌}
use Rattle.ir_check.proofs.FirstPlaces.{first_found, first_behind, first_past}
use Rattle.ir_check.proofs.BadEntries.{places_in, blocks_flat}
use Rattle.ir_check.proofs.entries.bad_entries.Goals as goal

pub loop-block-preserved : goal.loop-block-preserved
loop-block-preserved c =
    let f = c.args.f.now in
    let blocks = c.as_slice-block-items.result.now in
    let i = c.loop-block.block-index in
    let block = c.block-item.result in
    let within : i < length blocks = omega arith in
    let none : slice_get (places_in f block) 0 ≡ None =
    sym (c.in_ok-place.ensures f c.in_ok-edges.ensures.exact) ∙ c.in-None.is in
    sym (first_behind (places_in f) blocks i block within c.block-item.is none) ∙ c.loop-block.invariant

pub returns-in-Some : goal.returns-in-Some
returns-in-Some c =
    let f = c.args.f.now in
    let blocks = c.as_slice-block-items.result.now in
    let i = c.loop-block.block-index in
    let block = c.block-item.result in
    let within : i < length blocks = omega arith in
    let found : slice_get (places_in f block) 0 ≡ Some c.in-Some.place =
    sym (c.in_ok-place.ensures f c.in_ok-edges.ensures.exact) ∙ c.in-Some.is in
    sym (first_found (places_in f) blocks i block c.in-Some.place within c.block-item.is found)
    ∙ (c.loop-block.invariant
    ∙ (ap (λ all. slice_get (flat_map (places_in f) all) 0) c.as_slice-block-items.ensures
    ∙ ap (λ places. slice_get places 0) (sym (blocks_flat f f.blocks))))

pub returns : goal.returns
returns c =
    let f = c.args.f.now in
    let blocks = c.as_slice-block-items.result.now in
    let i = c.loop-block.block-index in
    let past : length blocks ≤ i = omega arith in
    sym (first_past (places_in f) blocks i past)
    ∙ (c.loop-block.invariant
    ∙ (ap (λ all. slice_get (flat_map (places_in f) all) 0) c.as_slice-block-items.ensures
    ∙ ap (λ places. slice_get places 0) (sym (blocks_flat f f.blocks))))
