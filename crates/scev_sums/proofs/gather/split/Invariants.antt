use Rattle.std.proofs.Common.{◌≡◌, drop}
use Rattle.scev_arena.specs.Meaning.{meanings, terms_at}
use Rattle.scev_arena.specs.Standing.{AreOverAtoms}
use Rattle.scev_forms.specs.Gather as forms
use Rattle.scev_sums.proofs.Reading.{joining_with, staying_with}
use Rattle.scev_sums.proofs.gather.split.Given as goal

abbrev pub invariant-loop-term : goal.invariant-loop-term
invariant-loop-term l = record {
  group : joining_with (meanings l.arena) l.nest l.l.0 l.group.items (drop l.term-index l.terms)
      ≡ forms.joining l.nest l.l.0 (terms_at (meanings l.arena) l.terms);
  others : staying_with (meanings l.arena) l.nest l.l.0 l.others.items (drop l.term-index l.terms)
      ≡ forms.staying l.nest l.l.0 (terms_at (meanings l.arena) l.terms);
  group_over : AreOverAtoms l.arena l.fn.w.bits l.group.items;
  others_over : AreOverAtoms l.arena l.fn.w.bits l.others.items;
}
