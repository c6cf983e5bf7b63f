use Rattle.std.proofs.Common.{◌≡◌, [], drop}
use Rattle.scev_forms.specs.Minima as forms
use Rattle.scev_sums.specs.Answers.{AreTreesOfAt, trees_at}
use Rattle.scev_minima.proofs.FirstOnes.{ones_with}
use Rattle.scev_minima.proofs.sequences.first_ones.Given as goal

abbrev pub invariant-loop-id : goal.invariant-loop-id
invariant-loop-id l = record {
  trees : AreTreesOfAt l.arena l.fn.w.bits l.found.items;
  ones : ones_with l.arena l.found.items (drop l.id-index l.ids) ≡ forms.first_ones [] (trees_at l.arena l.ids);
}
