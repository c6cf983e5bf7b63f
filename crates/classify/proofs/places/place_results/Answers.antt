use Rattle.std.proofs.Common.{◌<◌, ◌+◌, ℕ, List, Option, length, take, arith, sym, subst}
use Rattle.classify.specs.Places.{ArePlaced}
use Rattle.classify.proofs.PlaceLemmas.{ArePlaced_more}
use Rattle.classify.proofs.places.place_results.Goals as goal

pub loop-at-preserved : goal.loop-at-preserved
loop-at-preserved c =
    let within : c.loop-at.at < length c.args.instrs.now = omega arith in
    let more = ArePlaced_more c.args.block c.loop-at.at c.args.instrs.now c.index-instrs-at.result c.args.places.now c.loop-at.places within c.index-instrs-at.is c.loop-at.invariant in
    subst (λ (places : List (Option (ℕ × ℕ))). ArePlaced c.args.block (take (c.loop-at.at + 1) c.args.instrs.now) c.args.places.now places) (sym c.place_result.ensures) more
