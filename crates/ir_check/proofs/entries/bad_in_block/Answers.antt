use Rattle.std.proofs.Common.{arith, ◌<◌, ◌≤◌, length, true, false, Some, flat_map, slice_get, sym, ap, ◌∙◌}
use Rattle.ir_rules.specs.Spots.{named_by}
use Rattle.ir_check.proofs.FirstPlaces.{first_found, first_behind, first_past}
use Rattle.ir_check.proofs.BadEntries.{places_at, places_flat, first_at, incoming_moved}
use Rattle.ir_check.proofs.entries.bad_in_block.Goals as goal

pub loop-instr-preserved : goal.loop-instr-preserved
loop-instr-preserved c f are =
    let b = c.args.block.now.id.0 in
    let instrs = c.as_slice-instr-items.result.now in
    let i = c.loop-instr.instr-index in
    let instr = c.instr-item.result in
    let within : i < length instrs = omega arith in
    let moved = incoming_moved f b c.preds.result.now c.in_ok-sources.sources.items c.as_slice.result.now
    (c.preds.ensures f are) c.in_ok-sources.ensures.moved c.as_slice.ensures.value in
    let fits = first_at f b instr true (sym c.if-not-branch.false ∙ c.in_ok-op_fits.ensures f b moved) in
    sym (first_behind (places_at f b) instrs i instr within c.instr-item.is fits) ∙ c.loop-instr.invariant f are

pub returns-then-not-branch : goal.returns-then-not-branch
returns-then-not-branch c f are =
    let b = c.args.block.now.id.0 in
    let instrs = c.as_slice-instr-items.result.now in
    let i = c.loop-instr.instr-index in
    let instr = c.instr-item.result in
    let within : i < length instrs = omega arith in
    let moved = incoming_moved f b c.preds.result.now c.in_ok-sources.sources.items c.as_slice.result.now
    (c.preds.ensures f are) c.in_ok-sources.ensures.moved c.as_slice.ensures.value in
    let bad = first_at f b instr false (sym c.if-not-branch.true ∙ c.in_ok-op_fits.ensures f b moved) in
    ap Some c.place_of.ensures
    ∙ (sym (first_found (places_at f b) instrs i instr (named_by b instr.result) within c.instr-item.is bad)
    ∙ (c.loop-instr.invariant f are
    ∙ (ap (λ all. slice_get (flat_map (places_at f b) all) 0) c.as_slice-instr-items.ensures
    ∙ ap (λ places. slice_get places 0) (sym (places_flat f b c.args.block.now.instrs)))))

pub returns : goal.returns
returns c f are =
    let b = c.args.block.now.id.0 in
    let instrs = c.as_slice-instr-items.result.now in
    let i = c.loop-instr.instr-index in
    let past : length instrs ≤ i = omega arith in
    sym (first_past (places_at f b) instrs i past)
    ∙ (c.loop-instr.invariant f are
    ∙ (ap (λ all. slice_get (flat_map (places_at f b) all) 0) c.as_slice-instr-items.ensures
    ∙ ap (λ places. slice_get places 0) (sym (places_flat f b c.args.block.now.instrs))))
