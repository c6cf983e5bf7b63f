use Rattle.std.proofs.Common.{◌≡◌, ℕ, ◌+◌, ◌-◌, ◌++◌, ◌∷◌, [], List, ap, ◌∙◌, arith}
use Rattle.std.specs.List.{range_with_len}
use Rattle.rec_algebra.proofs.LoopLemmas.{range_one_more}
use Rattle.rec_algebra.proofs.plans.places_from.Goals as goal

pub loop-place-preserved : goal.loop-place-preserved
loop-place-preserved c =
    let start = c.args.start in
    let count = c.loop-place.place - start in
    let place : c.loop-place.place ≡ start + count = omega arith in
    let more : count + 1 ≡ c.loop-place.place + 1 - start = omega arith in
    c.in_ok-push.ensures.items
    ∙ ap (λ (l : List ℕ). l ++ c.loop-place.place ∷ []) c.loop-place.invariant
    ∙ ap (λ k. range_with_len start count ++ k ∷ []) place
    ∙ range_one_more start count
    ∙ ap (range_with_len start) more
