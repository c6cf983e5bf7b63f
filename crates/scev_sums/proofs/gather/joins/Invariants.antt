use Rattle.std.proofs.Common.{◌≡◌, drop}
use Rattle.scev_arena.specs.Meaning.{meanings, factors_at}
use Rattle.scev_forms.specs.Gather as forms
use Rattle.scev_sums.proofs.gather.joins.Given as goal

-- What is left decides.
abbrev pub invariant-loop-id : goal.invariant-loop-id
invariant-loop-id l = forms.joins l.nest l.l.0 (factors_at (meanings l.arena) (drop l.id-index l.ids))
    ≡ forms.joins l.nest l.l.0 (factors_at (meanings l.arena) l.ids)
