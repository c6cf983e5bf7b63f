use Rattle.std.proofs.Common.{◌≡◌, ℕ, drop}
use Rattle.scev_arena.specs.Meaning.{meanings, factors_at}
use Rattle.scev_arena.specs.Standing.{AreAtoms}
use Rattle.scev_forms.specs.Gather as forms
use Rattle.scev_sums.proofs.Reading.{rest_with}
use Rattle.scev_sums.proofs.gather.rest_of.Given as goal

abbrev pub invariant-loop-id : goal.invariant-loop-id
invariant-loop-id l = record {
  rest : rest_with (meanings l.arena) l.l.0 l.rest.items (drop l.id-index l.ids)
      ≡ forms.rest_of l.l.0 (factors_at (meanings l.arena) l.ids);
  atoms : (w : ℕ) → AreAtoms l.arena w l.ids → AreAtoms l.arena w l.rest.items;
}
