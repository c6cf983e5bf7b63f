use Rattle.std.proofs.Common.{◌↔◌, drop}
use Rattle.poly_terms.specs.Terms.{HasLongMonomial}
use Rattle.poly_terms.proofs.limit.has_long_monomial.Given as goal

abbrev pub invariant-loop-term : goal.invariant-loop-term
invariant-loop-term l = HasLongMonomial l.terms ↔ HasLongMonomial (drop l.term-index l.terms)
