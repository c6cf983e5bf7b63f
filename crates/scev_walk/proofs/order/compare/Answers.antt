use Rattle.scev_walk.proofs.Compared.{trees_compared}
use Rattle.scev_walk.proofs.order.compare.Goals as goal

pub returns : goal.returns
returns c =
    trees_compared c.args.arena.now c.len.ensures.arena c.args.left c.args.right c.trees.result c.requires.left
    c.requires.right c.trees.ensures
