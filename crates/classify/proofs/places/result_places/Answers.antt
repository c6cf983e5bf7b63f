use Rattle.std.proofs.Common.{◌≡◌, ◌<◌, ◌++◌, ℕ, List, Option, length, take, drop, get_or, arith, subst}
use Rattle.std.proofs.lemmas.List.{take_at}
use Rattle.ir_model.specs.declared.function.Block.{Block}
use Rattle.ir_model.specs.declared.function.Instr.{Instr}
use Rattle.classify.specs.Places.{ArePlaced}
use Rattle.classify.proofs.PlaceLemmas.{ArePlaces_more}
use Rattle.classify.proofs.places.result_places.Goals as goal

pub loop-at-preserved : goal.loop-at-preserved
loop-at-preserved c =
    let blocks = c.args.f.now.blocks in
    let at = c.loop-at.at in
    let old = c.loop-at.places.items in
    let new = c.place_results.new.places in
    let block = c.block-item.result in
    let size : length new ≡ c.loop-at.places.len = omega (arith, c.place_results.ensures.count, c.as_mut_slice.ensures.len) in
    let same : take c.loop-at.places.len (new ++ drop (length new) old) ≡ new = take_at new (drop (length new) old) c.loop-at.places.len size in
    let within : at < length blocks = subst (λ (xs : List Block). at < length xs) c.as_slice-block-items.ensures c.loop-at-test.true in
    let is = subst (λ (xs : List Block). block ≡ get_or xs at block) c.as_slice-block-items.ensures c.block-item.is in
    let of_items = subst (λ (places : List (Option (ℕ × ℕ))). ArePlaced at c.as_slice.result.now places new) c.as_mut_slice.ensures.value c.place_results.ensures in
    let step = subst (λ (instrs : List Instr). ArePlaced at instrs old new) c.as_slice.ensures of_items in
    rw same (omega (arith, step.count, c.loop-at.invariant.0), ArePlaces_more at blocks block old new within is c.loop-at.invariant.1 step)
