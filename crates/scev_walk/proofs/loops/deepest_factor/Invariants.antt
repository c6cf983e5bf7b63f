use Rattle.std.proofs.Common.{◌≡◌, drop, option_map}
use Rattle.scev_arena.specs.Meaning.{meanings, factors_at}
use Rattle.scev_forms.specs.Gather as forms
use Rattle.scev_walk.specs.Reading.{deepest_before}
use Rattle.scev_walk.proofs.loops.deepest_factor.Given as goal

abbrev pub invariant-loop-i : goal.invariant-loop-i
invariant-loop-i l = option_map (λ k. k.0) l.found ≡ deepest_before l.nest
    (forms.loops_of_factors (factors_at (meanings l.arena) (drop l.i l.ids))) (option_map (λ k. k.0) l.fn.behind)
