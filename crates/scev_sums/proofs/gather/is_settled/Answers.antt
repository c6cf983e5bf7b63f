use Rattle.std.proofs.Common.{◌≤◌, length, subst}
use Rattle.scev_arena.specs.Meaning.{meanings}
use Rattle.scev_walk.proofs.Lists.{one_item}
use Rattle.scev_sums.proofs.Reading.{terms_left, factors_left}
use Rattle.scev_sums.proofs.gather.is_settled.Goals as goal

pub returns-in_default-as_slice-2 : goal.returns-in_default-as_slice-2
returns-in_default-as_slice-2 c =
    let t = c.only-item.result in
    factors_left (meanings c.args.arena.now) c.args.l.0 c.args.group.now t
    (one_item c.args.group.now t c.in-len1.len_at_least c.in-len1.len_below c.only-item.is)
    (subst (λ ids. 2 ≤ length ids) c.as_slice.ensures c.in_default-as_slice.len_at_least)

pub returns-in_default : goal.returns-in_default
returns-in_default c =
    terms_left (meanings c.args.arena.now) c.args.l.0 c.args.group.now c.in_default.len_at_least
