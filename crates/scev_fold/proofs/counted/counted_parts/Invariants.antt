use Rattle.std.proofs.Common.{◌+◌, drop}
use Rattle.scev_arena.specs.Meaning.{tree_of}
use Rattle.scev_forms.specs.Turns as forms
use Rattle.scev_sums.specs.Answers.{trees_at}
use Rattle.scev_casts.proofs.Cutting.{IsCutting}
use Rattle.scev_fold.specs.Binomials.{IsBinomial}
use Rattle.scev_fold.proofs.counted.counted_parts.Given as goal

-- What is left to do gives the same as the whole, and the binomial coefficient is that of the place.
abbrev pub invariant-loop-i : goal.invariant-loop-i
invariant-loop-i l =
    let first = l.fn.arena in
    let w = l.fn.w.bits in
    IsCutting (forms.counted_parts l.nest w l.fn.n (l.i + 1) (trees_at first (drop l.i l.others))) w
    (forms.counted_parts l.nest w l.fn.n 1 (trees_at first l.others) (tree_of first l.fn.first))
    first l.arena l.sum
    × IsBinomial l.fn.n l.i l.binomial
