use Rattle.std.proofs.Common.{◌∙◌}
use Rattle.scev_sums.proofs.SameTerms.{terms_tell}
use Rattle.scev_sums.proofs.sums.are_same.Goals as goal

pub returns : goal.returns
returns c =
    c.eq.ensures
    ∙ terms_tell c.args.arena.now c.len.ensures.arena c.args.w.bits c.args.left.now c.args.right.now c.requires.left
    c.requires.right
