-- Polynomials over the atoms of an arena.
use Rattle.std.specs.Prelude.{ℕ, ◌%◌, ◌^◌, ◌==◌, if◌then◌else◌, List, [], ◌∷◌}
use Rattle.scev_base.specs.declared.ids.ExprId.{ExprId}
use Rattle.scev_tree.specs.Canonical.{AreCanonicalTerms}
use Rattle.poly_terms.specs.declared.term.Term.{Term}
use Rattle.scev_arena.specs.declared.node.Node.{Node}
use Rattle.scev_arena.specs.Meaning.{meanings, terms_at}
use Rattle.scev_arena.specs.Standing.{AreOverAtoms}

-- the terms are over atoms of w bits, and canonical: a tree of w bits may have them
pub record IsPolynomial (nodes : List Node) (w : ℕ) (terms : List Term) : Type 0 where
  pub over : AreOverAtoms nodes w terms
  pub canonical : AreCanonicalTerms w (terms_at (meanings nodes) terms)

-- the term of a monomial with a coefficient modulo 2^w; none where that is 0
abbrev pub term_or_none : ℕ → List ExprId → ℕ → List Term
term_or_none w ids coefficient =
    if coefficient % 2 ^ w == 0 then [] else record { ids = ids; coefficient = coefficient % 2 ^ w } ∷ []
