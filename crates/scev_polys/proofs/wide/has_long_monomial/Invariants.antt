use Rattle.std.proofs.Common.{◌≡◌, List, drop}
use Rattle.scev_arena.specs.Meaning.{Meant, terms_at}
use Rattle.scev_arena.specs.Limits.{has_long_monomial}
use Rattle.scev_polys.proofs.wide.has_long_monomial.Given as goal

abbrev pub invariant-loop-term : goal.invariant-loop-term
invariant-loop-term l = (meant : List Meant)
    → has_long_monomial (terms_at meant l.terms) ≡ has_long_monomial (terms_at meant (drop l.term-index l.terms))
