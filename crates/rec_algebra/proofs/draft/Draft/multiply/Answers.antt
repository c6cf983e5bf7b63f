use Rattle.std.proofs.Common.{◌∙◌}
use Rattle.rec_algebra.specs.Forming.{multiplied}
use Rattle.rec_algebra.proofs.draft.Draft.multiply.Goals as goal

pub returns-clause-places : goal.returns-clause-places
unfolding multiplied
returns-clause-places c =
    let sum = rw (c.add.ensures.parts, c.in_ok-add.ensures.steps, c.in_ok-push.ensures.items, c.new-places.ensures.items, c.in_ok-add.ensures.place) at c.in_ok-sum.ensures.places in
    c.from_vec.ensures ∙ sum

pub returns-clause-steps : goal.returns-clause-steps
unfolding multiplied
returns-clause-steps c =
    rw (c.add.ensures.parts, c.in_ok-add.ensures.steps, c.in_ok-push.ensures.items, c.new-places.ensures.items, c.in_ok-add.ensures.place) at c.in_ok-sum.ensures.steps
