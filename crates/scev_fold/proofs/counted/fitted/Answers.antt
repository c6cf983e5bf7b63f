use Rattle.std.proofs.Common.{arith}
use Rattle.scev_arena.specs.Meaning.{tree_of}
use Rattle.scev_sums.specs.Answers.{IsAt}
use Rattle.scev_sums.proofs.Telling.{told_same}
use Rattle.scev_fold.proofs.Counting.{narrow_fitted}
use Rattle.scev_fold.proofs.counted.fitted.Goals as goal

pub returns-then-get-clause-tree : goal.returns-then-get-clause-tree
returns-then-get-clause-tree c =
    told_same (IsAt c.make_zext.new.arena c.args.w.bits) _ _ c.make_zext.result
    (narrow_fitted c.args.nest.now c.args.w.bits (tree_of c.args.arena.now c.args.count) c.width.ensures.width
    (omega (arith, c.if-get.true, c.get.ensures, c.get-2.ensures)))
    c.make_zext.ensures.tree
