use Rattle.std.proofs.Common.{◌≡◌, ◌+◌, ◌++◌, length}
use Rattle.poly_terms.specs.Monomials.{IsMonomial, union}
use Rattle.poly_terms.proofs.monomial.union_of.Given as goal

abbrev pub invariant-loop-x : goal.invariant-loop-x
invariant-loop-x l = record {
  left : IsMonomial l.lefts;
  right : IsMonomial l.rights;
  all : l.ids.items ++ union l.lefts l.rights ≡ union l.left l.right;
}

abbrev pub decreases-loop-x : goal.decreases-loop-x
decreases-loop-x l = length l.lefts + length l.rights
