use Rattle.std.proofs.Common.{◌≡◌, List, ◌∷◌, [], ◌++◌, ap, ◌∙◌, sym, subst}
use Rattle.scev_base.specs.declared.ids.ExprId.{ExprId}
use Rattle.poly_terms.specs.declared.term.Term.{Term}
use Rattle.poly_terms.specs.Terms.{Polynomial, IsCanonical, IsTooWide}
use Rattle.poly_terms.proofs.WeightLemmas.{term_is}
use Rattle.poly_terms.proofs.CoefficientLemmas.{atom_is, atom_within}
use Rattle.poly_terms.proofs.terms.Terms.atom.Goals as goal
use Rattle.poly_terms.proofs.terms.Terms.atom.Goals.{After-from_vec}

-- a term behind no others, by its ids and its coefficient
alone : (none after pairs : List Term) (term : Term) (id : ExprId) → none ≡ [] → after ≡ none ++ term ∷ []
    → pairs ≡ after → term.ids ≡ id ∷ [] → term.coefficient ≡ 1
    → pairs ≡ record { ids = id ∷ []; coefficient = 1 } ∷ []
alone none after pairs term id empty pushed moved ids one =
    moved ∙ pushed ∙ ap (λ l. l ++ term ∷ []) empty ∙ ap (λ t. t ∷ []) (term_is term (id ∷ []) 1 ids one)

made : (c : After-from_vec) → c.from_vec.result ≡ record { ids = c.args.id ∷ []; coefficient = 1 } ∷ []
made c =
    alone c.new-pairs.result.items c.push.new.self.items c.from_vec.result c.in_ok-copied.field-0 c.args.id
    c.new-pairs.ensures.items c.in_ok-push.ensures.items c.from_vec.ensures c.in_ok-copied.ensures.ids
    c.in_ok-copied.ensures.coefficient

pub from_pairs-requires : goal.from_pairs-requires
from_pairs-requires c =
    subst (IsCanonical c.args.w.bits) (sym (made c)) (atom_is c.args.w.bits c.args.id c.args.w.at_least_one)

pub returns-clause-within : goal.returns-clause-within
returns-clause-within c wide =
    let at = (goal.at.returns-clause-within c).After-from_vec in
    atom_within c.args.id (subst IsTooWide (ap (λ (p : Polynomial). p.pairs) c.from_pairs.ensures ∙ made at) wide)
