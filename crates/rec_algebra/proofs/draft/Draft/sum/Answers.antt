use Rattle.std.proofs.Common.{◌≡◌, max, length, drop, sym, ap, ◌∙◌, arith}
use Rattle.rec_algebra.specs.Forming.{Formed, with_place, summed}
use Rattle.rec_algebra.proofs.LoopLemmas.{summed_one_more, summed_end}
use Rattle.rec_algebra.proofs.draft.Draft.sum.Goals as goal
use Rattle.rec_algebra.proofs.draft.Draft.sum.Goals.{After-loop-i}

pub loop-i-preserved : goal.loop-i-preserved
loop-i-preserved c =
    let formed : Formed = record { steps = c.loop-i.self.steps.items; places = c.loop-i.places.items } in
    let steps = rw (c.loop-i.invariant.same_parts, c.place_at.ensures, c.place_at-in-loop-i.ensures, c.place_at-in-loop-i-2.ensures) at c.in_ok-part.ensures.steps in
    let place = rw (c.loop-i.invariant.same_parts, c.place_at.ensures, c.place_at-in-loop-i.ensures, c.place_at-in-loop-i-2.ensures) at c.in_ok-part.ensures.place in
    record {
      same_parts = c.join_three.ensures.parts ∙ c.loop-i.invariant.same_parts;
      still = c.loop-i.invariant.still ∙ summed_one_more c.args.self.now.parts formed c.max-count.result c.loop-i.i c.args.first.now c.args.second.now c.args.third.now c.join_three.new.self.steps.items c.push_if_there.new.places.items c.loop-i-test.true steps (c.in_ok-push_if_there.ensures ∙ ap (with_place c.loop-i.places.items) place);
    }

-- After the last turn nothing is left to add.
ended : (c : After-loop-i) → let start : Formed = record { steps = c.args.self.now.steps.items; places = c.args.places.now.items } in let formed : Formed = record { steps = c.loop-i.self.steps.items; places = c.loop-i.places.items } in summed c.args.self.now.parts start (max (max (length c.args.first.now) (length c.args.second.now)) (length c.args.third.now)) c.args.first.now c.args.second.now c.args.third.now ≡ formed
ended c =
    let start : Formed = record { steps = c.args.self.now.steps.items; places = c.args.places.now.items } in
    let formed : Formed = record { steps = c.loop-i.self.steps.items; places = c.loop-i.places.items } in
    let count : max (max (length c.args.first.now) (length c.args.second.now)) (length c.args.third.now) ≡ c.max-count.result = omega (arith, c.max.ensures, c.max-count.ensures) in
    ap (λ k. summed c.args.self.now.parts start k c.args.first.now c.args.second.now c.args.third.now) count
    ∙ c.loop-i.invariant.still
    ∙ summed_end c.args.self.now.parts formed c.max-count.result c.loop-i.i (drop c.loop-i.i c.args.first.now) (drop c.loop-i.i c.args.second.now) (drop c.loop-i.i c.args.third.now) c.loop-i-test.false

pub returns-clause-places : goal.returns-clause-places
returns-clause-places c = sym (ap (λ (s : Formed). s.places) (ended c))

pub returns-clause-steps : goal.returns-clause-steps
returns-clause-steps c = sym (ap (λ (s : Formed). s.steps) (ended c))
