-- Trees at a level, as they are formed.
use Rattle.std.specs.Prelude.{◌≡◌, ℕ, ◌≤◌, List, Option, length}
use Rattle.scev_base.specs.declared.ids.ExprId.{ExprId}
use Rattle.scev_tree.specs.Tree.{Tree, Terms, polynomial, term, no_terms}
use Rattle.scev_tree.specs.Canonical.{AreCanonicalTerms}
use Rattle.poly_terms.specs.declared.term.Term.{Term}
use Rattle.rec_algebra.specs.Plans.{Plan, IsPlan}
use Rattle.scev_arena.specs.declared.node.Node.{Node}
use Rattle.scev_arena.specs.Meaning.{meanings, terms_at, factors_at}
use Rattle.scev_arena.specs.Standing.{AreAtoms}
use Rattle.scev_forms.specs.Outcome.{Outcome}
use Rattle.scev_forms.specs.Sums.{formed, Gathering, Whole, Again}
use Rattle.scev_polys.specs.Polynomials.{IsPolynomial}
use Rattle.scev_sums.specs.Answers.{IsAt, AreTreesOfAt}
use Rattle.scev_sums.specs.declared.sums.Level.{Level}
use Rattle.scev_sums.specs.declared.sums.Gathering.TheVariants as code
use Rattle.scev_sums.specs.declared.sums.Gathering as code_type

-- how the tree of a polynomial is formed at a level
abbrev pub former : List (Option ℕ) → Level → Terms → Outcome Tree
former parents at = formed parents at.width.bits at.loops

-- what a step of gathering answers, of the polynomial that it began with
abbrev pub IsGathering : List Node → ℕ → Terms → code_type.Gathering → Gathering → Type 0
IsGathering nodes w terms code.Unchanged gathering = gathering ≡ Whole (polynomial w terms)
IsGathering nodes w terms (code.Whole id) gathering = (tree : Tree) × (gathering ≡ Whole tree) × IsAt nodes w id tree
IsGathering nodes w terms (code.Again more) gathering =
    (gathering ≡ Again (terms_at (meanings nodes) more)) × IsPolynomial nodes w more

-- the term is a monomial of a polynomial
abbrev pub IsMonomialOf : List Node → ℕ → Term → Type 0
IsMonomialOf nodes w t = AreAtoms nodes w t.ids
    × AreCanonicalTerms w (term (factors_at (meanings nodes) t.ids) t.coefficient no_terms)

-- the places hold the parts of a recurrence of w bits, one or more
abbrev pub IsRecurrence : List Node → ℕ → List ExprId → Type 0
IsRecurrence nodes w ids = AreTreesOfAt nodes w ids × (1 ≤ length ids)

-- the plan is one of so many operands' parts
abbrev pub NamePlaces : Plan → ℕ → Type 0
NamePlaces plan count = IsPlan plan × (plan.parts ≡ count)
