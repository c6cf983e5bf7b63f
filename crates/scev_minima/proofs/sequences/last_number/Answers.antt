use Rattle.std.proofs.Common.{◌-◌, take, length, sym, ap, ◌∙◌, subst}
use Rattle.scev_sums.specs.Answers.{AreTreesOfAt}
use Rattle.scev_sums.proofs.Held.{last_tree}
use Rattle.scev_minima.specs.Sequences.{first_number}
use Rattle.scev_minima.proofs.Backwards.{split_last, last_of}
use Rattle.scev_minima.proofs.sequences.last_number.Goals as goal

pub number_of-requires : goal.number_of-requires
number_of-requires c =
    let nodes = c.args.arena.now in
    let ids = c.args.ids.now in
    let last = c.in_ok-last.field-0.now in
    let w = c.args.w.bits in
    (last_tree nodes w (take (length ids - 1) ids) last
    (subst (AreTreesOfAt nodes w) (split_last ids last c.in_ok-last.ensures.value) c.requires)).0

pub returns : goal.returns
returns c =
    c.number_of.ensures
    ∙ sym (ap first_number
    (last_of c.args.arena.now c.args.ids.now c.in_ok-last.field-0.now c.in_ok-last.ensures.value))
