use Rattle.std.proofs.Common.{◌≡◌, drop}
use Rattle.scev_arena.specs.Meaning.{meanings, factors_at}
use Rattle.scev_forms.specs.Gather as forms
use Rattle.scev_sums.specs.Answers.{AreAll}
use Rattle.scev_sums.specs.Levels.{IsRecurrence}
use Rattle.scev_sums.proofs.RecParts.{recs_with}
use Rattle.scev_sums.proofs.gather.recs_of.Given as goal

abbrev pub invariant-loop-id : goal.invariant-loop-id
invariant-loop-id l = record {
  recs : recs_with l.arena l.l.0 l.recs.items (drop l.id-index l.ids)
      ≡ forms.recs_of l.l.0 (factors_at (meanings l.arena) l.ids);
  trees : AreAll (IsRecurrence l.arena l.fn.w.bits) l.recs.items;
}
