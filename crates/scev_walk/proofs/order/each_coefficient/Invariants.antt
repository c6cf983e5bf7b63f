use Rattle.std.proofs.Common.{◌≡◌, List, drop}
use Rattle.scev_tree.specs.Order.{coefficients}
use Rattle.scev_arena.specs.Meaning.{Meant, terms_at}
use Rattle.scev_walk.specs.Reading.{code_order}
use Rattle.scev_walk.proofs.order.each_coefficient.Given as goal

-- Those that are left decide.
abbrev pub invariant-loop-i : goal.invariant-loop-i
invariant-loop-i l = (meant : List Meant)
    → code_order (coefficients (terms_at meant (drop l.i l.left))) (coefficients (terms_at meant (drop l.i l.right)))
    ≡ code_order (coefficients (terms_at meant l.left)) (coefficients (terms_at meant l.right))
