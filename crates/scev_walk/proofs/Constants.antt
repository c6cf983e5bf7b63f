-- Which polynomials are numbers, or one atom.
use Rattle.std.proofs.Common.{◌≡◌, ℕ, ◌≤◌, List, [], ◌∷◌, length, None, refl, arith}
use Rattle.std.proofs.lemmas.Bool.{ne_eqb}
use Rattle.scev_base.specs.declared.ids.ExprId.{ExprId}
use Rattle.scev_tree.specs.Tree.{Terms, Factors, polynomial, no_terms, term, no_factors, factor}
use Rattle.poly_terms.specs.declared.term.Term.{Term}
use Rattle.scev_arena.specs.Meaning.{Meant, factors_at, terms_at}
use Rattle.scev_forms.specs.Atoms.{number_of, alone}

-- ---- numbers

two_terms : (w n : ℕ) (f g : Factors) (m : ℕ) (ts : Terms) → number_of (polynomial w (term f n (term g m ts))) ≡ None
two_terms w n no_factors g m ts = refl
two_terms w n (factor a f) g m ts = refl

pub many_no_number : (w : ℕ) (meant : List Meant) (ts : List Term) → 2 ≤ length ts
    → number_of (polynomial w (terms_at meant ts)) ≡ None
many_no_number w meant [] many = absurd (omega arith)
many_no_number w meant (t ∷ []) many = absurd (omega arith)
many_no_number w meant (t ∷ s ∷ ts) many =
    two_terms w t.coefficient (factors_at meant t.ids) (factors_at meant s.ids) s.coefficient (terms_at meant ts)

pub factors_no_number : (w n : ℕ) (meant : List Meant) (ids : List ExprId) → 1 ≤ length ids
    → number_of (polynomial w (term (factors_at meant ids) n no_terms)) ≡ None
factors_no_number w n meant [] some = absurd (omega arith)
factors_no_number w n meant (id ∷ ids) some = refl

-- ---- one atom

two_terms_apart : (w n : ℕ) (f g : Factors) (m : ℕ) (ts : Terms)
    → alone (polynomial w (term f n (term g m ts))) ≡ None
two_terms_apart w n no_factors g m ts = refl
two_terms_apart w n (factor a no_factors) g m ts = refl
two_terms_apart w n (factor a (factor b f)) g m ts = refl

pub many_not_alone : (w : ℕ) (meant : List Meant) (ts : List Term) → 2 ≤ length ts
    → alone (polynomial w (terms_at meant ts)) ≡ None
many_not_alone w meant [] many = absurd (omega arith)
many_not_alone w meant (t ∷ []) many = absurd (omega arith)
many_not_alone w meant (t ∷ s ∷ ts) many =
    two_terms_apart w t.coefficient (factors_at meant t.ids) (factors_at meant s.ids) s.coefficient (terms_at meant ts)

pub other_not_alone : (w n : ℕ) (f : Factors) → (n ≡ 1 → ⊥) → alone (polynomial w (term f n no_terms)) ≡ None
other_not_alone w n no_factors other = refl
other_not_alone w n (factor a no_factors) other = rw (ne_eqb n 1 other) refl
other_not_alone w n (factor a (factor b f)) other = refl

pub factors_not_alone : (w n : ℕ) (meant : List Meant) (ids : List ExprId) → 2 ≤ length ids
    → alone (polynomial w (term (factors_at meant ids) n no_terms)) ≡ None
factors_not_alone w n meant [] many = absurd (omega arith)
factors_not_alone w n meant (id ∷ []) many = absurd (omega arith)
factors_not_alone w n meant (id ∷ other ∷ ids) many = refl
