use Rattle.std.proofs.Common.{◌≡◌, drop}
use Rattle.scev_forms.specs.Minima as forms
use Rattle.scev_sums.specs.Answers.{GoesOn, AreTreesOfAt, trees_at}
use Rattle.scev_minima.specs.Sequences.{reversed}
use Rattle.scev_minima.proofs.sequences.neighbours_joined.Given as goal

abbrev pub invariant-loop-i : goal.invariant-loop-i
invariant-loop-i l = record {
  grows : GoesOn l.fn.arena l.arena;
  trees : AreTreesOfAt l.arena l.fn.w.bits l.found.items;
  parts : reversed (trees_at l.arena l.found.items)
      ≡ forms.neighbours_joined l.fn.w.bits (trees_at l.fn.arena (drop l.i l.ids));
}
