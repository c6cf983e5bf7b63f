use Rattle.std.proofs.Common.{sym, ◌∙◌, subst}
use Rattle.poly_terms.specs.Terms.{IsTooWide}
use Rattle.poly_terms.proofs.CoefficientLemmas.{one_canonical}
use Rattle.poly_terms.proofs.laws.one_width.Goals as goal

pub returns-clause-sum : goal.returns-clause-sum
returns-clause-sum c bits left right pairs wide canonical sum =
    subst IsTooWide (one_canonical bits wide.0 pairs wide.1.in_order wide.1.reduced canonical.in_order canonical.reduced (λ monomial _. wide.2 monomial ∙ sym (sum monomial))) wide.3

pub returns-clause-product : goal.returns-clause-product
returns-clause-product c bits left right pairs wide canonical product =
    subst IsTooWide (one_canonical bits wide.0 pairs wide.1.in_order wide.1.reduced canonical.in_order canonical.reduced (λ monomial _. wide.2 monomial ∙ sym (product monomial))) wide.3
