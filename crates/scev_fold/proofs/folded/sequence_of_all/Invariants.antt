use Rattle.std.proofs.Common.{drop}
use Rattle.scev_arena.specs.Meaning.{tree_of}
use Rattle.scev_forms.specs.Turns as forms
use Rattle.scev_sums.specs.Answers.{trees_at}
use Rattle.scev_casts.proofs.Cutting.{IsCutting}
use Rattle.scev_fold.proofs.folded.sequence_of_all.Given as goal

-- What is left to do gives the same as the whole.
abbrev pub invariant-loop-other : goal.invariant-loop-other
invariant-loop-other l =
    let first = l.fn.arena in
    let w = l.fn.w.bits in
    IsCutting (λ tree. forms.sequence_of_all w tree (trees_at first (drop l.other-index l.others))) w
    (forms.sequence_of_all w (tree_of first l.fn.first) (trees_at first l.others))
    first l.arena l.least
