use Rattle.scev_walk.proofs.Compared.{all_within, monomials_compared}
use Rattle.scev_walk.proofs.order.compare_monomials.Goals as goal

pub monomials-requires-clause-below : goal.monomials-requires-clause-below
monomials-requires-clause-below c =
    all_within c.args.arena.now c.requires.left.0 c.len.result c.args.left.now c.len.ensures.len c.requires.left.1

pub returns : goal.returns
returns c =
    monomials_compared c.args.arena.now c.len.ensures.arena c.requires.left.0 c.requires.right.0 c.args.left.now
    c.args.right.now c.monomials.result c.requires.left.1 c.requires.right.1 c.monomials.ensures
