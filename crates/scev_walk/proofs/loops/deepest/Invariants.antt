use Rattle.std.proofs.Common.{◌≡◌, drop, option_map}
use Rattle.scev_arena.specs.Meaning.{meanings, terms_at}
use Rattle.scev_forms.specs.Gather as forms
use Rattle.scev_walk.proofs.loops.deepest.Given as goal

abbrev pub invariant-loop-i : goal.invariant-loop-i
invariant-loop-i l = option_map (λ k. k.0) l.found
    ≡ forms.deepest l.nest (forms.loops_of_terms (terms_at (meanings l.arena) (drop l.i l.terms)))
