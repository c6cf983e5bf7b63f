use Rattle.std.proofs.Common.{drop}
use Rattle.scev_forms.specs.Minima as forms
use Rattle.scev_sums.specs.Answers.{AreAt, trees_at}
use Rattle.scev_minima.proofs.minima.no_numbers.Given as goal

abbrev pub invariant-loop-i : goal.invariant-loop-i
invariant-loop-i l =
    AreAt l.arena l.w.bits l.found.items (forms.no_numbers (trees_at l.arena (drop l.i l.ids)))
