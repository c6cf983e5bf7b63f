-- The measure of what a node means is told by the measures of what it names.
use Rattle.std.proofs.Common.{◌≡◌, ℕ, zero, suc, ◌<◌, nat_lt, false, List, [], ◌∷◌, length, map}
use Rattle.std.proofs.Common.{Some, slice_get, get_or, refl, sym, ap, ◌∙◌}
use Rattle.std.proofs.lemmas.List.Elements.{All-nil, All-cons}
use Rattle.scev_base.specs.declared.limits.TheConstants.{MONOMIALS}
use Rattle.scev_base.specs.declared.ids.ExprId.{ExprId}
use Rattle.scev_tree.specs.Tree.{parts_of}
use Rattle.scev_tree.specs.Order.{count_terms, count_factors, count_parts}
use Rattle.poly_terms.specs.declared.term.Term.{Term}
use Rattle.scev_arena.specs.declared.node.Node.{Node}
use Rattle.scev_arena.specs.declared.node.Node.TheVariants as node
use Rattle.scev_arena.specs.Meaning.{Meant, TreeOf, AtomOf, node_meant, meanings, tree_of, atom_of}
use Rattle.scev_arena.specs.Meaning.{factors_at, terms_at}
use Rattle.scev_arena.specs.Standing.{IsTreeAt, IsAtomAt, AreTrees, AreAtoms, AreOverAtoms, MayStand}
use Rattle.scev_arena.specs.Measures.{tree_measure, atom_measure, meant_measure, measures_of, nothing, beside, around}
use Rattle.scev_arena.specs.Measures.{with_length, is_high_kind, measure_at, term_measure, node_measure}
use Rattle.scev_arena.specs.Measures.{AreWithin, TermsAreWithin, IsWithin}
use Rattle.scev_arena.proofs.WellMade.{IsWellMade, tree_held, atom_held, tree_within, atom_within}
use Rattle.scev_arena.proofs.Measured.{all_of, fold_is_all, terms_measure, factors_measure, parts_measure}
use Rattle.scev_arena.proofs.Measured.{long_measure, tree_measured, terms_measured, factors_measured}
use Rattle.scev_arena.proofs.Measured.{atom_measured, parts_measured}

-- the measure at a place is that of what it holds
at_held : (meant : List Meant) (i : ℕ) (held : Meant) → slice_get meant i ≡ Some held
    → get_or (map meant_measure meant) i nothing ≡ meant_measure held
at_held [] i held e = absurd (cc e)
at_held (x ∷ xs) zero held e = let same : x ≡ held = cc e in ap meant_measure same
at_held (x ∷ xs) (suc i) held e = at_held xs i held e

-- ---- as many as are named

pub as_many_parts : (nodes : List Node) (ids : List ExprId)
    → count_parts (parts_of (map (tree_of nodes) ids)) ≡ length ids
as_many_parts nodes [] = refl
as_many_parts nodes (id ∷ ids) = ap suc (as_many_parts nodes ids)

pub as_many_factors : (meant : List Meant) (ids : List ExprId) → count_factors (factors_at meant ids) ≡ length ids
as_many_factors meant [] = refl
as_many_factors meant (id ∷ ids) = ap suc (as_many_factors meant ids)

pub as_many_terms : (meant : List Meant) (ts : List Term) → count_terms (terms_at meant ts) ≡ length ts
as_many_terms meant [] = refl
as_many_terms meant (t ∷ ts) = ap suc (as_many_terms meant ts)

-- ---- which are places of the arena

module _ (nodes : List Node) where
  parts_within : (ids : List ExprId) → AreTrees nodes ids → AreWithin (length nodes) ids
  parts_within [] h = All-nil (λ id. id.0 < length nodes)
  parts_within (id ∷ ids) h =
      All-cons (λ x. x.0 < length nodes) id ids (tree_within nodes id h.0) (parts_within ids h.1)

  factors_within : (w : ℕ) (ids : List ExprId) → AreAtoms nodes w ids → AreWithin (length nodes) ids
  factors_within w [] h = All-nil (λ id. id.0 < length nodes)
  factors_within w (id ∷ ids) h =
      All-cons (λ x. x.0 < length nodes) id ids (atom_within nodes w id h.0) (factors_within w ids h.1)

  terms_within : (w : ℕ) (ts : List Term) → AreOverAtoms nodes w ts → TermsAreWithin (length nodes) ts
  terms_within w [] h = All-nil (λ t. AreWithin (length nodes) t.ids)
  terms_within w (t ∷ ts) h =
      All-cons (λ u. AreWithin (length nodes) u.ids) t ts (factors_within w t.ids h.0) (terms_within w ts h.1)

  -- A node that may stand names places before it.
  pub node_within : (n : Node) → MayStand nodes n → IsWithin (length nodes) n
  node_within (node.Tree width terms) may = terms_within width.bits terms may.1
  node_within (node.Atom kind width parts) may = parts_within parts may.0

module _ (nodes : List Node) (made : IsWellMade nodes) where
  -- ---- parts and factors

  pub at_tree : (id : ExprId) → IsTreeAt nodes id → measure_at (measures_of nodes) id ≡ tree_measure (tree_of nodes id)
  at_tree id h = at_held (meanings nodes) id.0 (TreeOf (tree_of nodes id)) (tree_held nodes made id h)

  at_atom : (w : ℕ) (id : ExprId) → IsAtomAt nodes w id
      → measure_at (measures_of nodes) id ≡ atom_measure (atom_of nodes id)
  at_atom w id h = at_held (meanings nodes) id.0 (AtomOf (atom_of nodes id)) (atom_held nodes made w id h)

  parts_are : (ids : List ExprId) → AreTrees nodes ids
      → parts_measure (parts_of (map (tree_of nodes) ids)) ≡ all_of (measure_at (measures_of nodes)) ids
  parts_are [] h = refl
  parts_are (id ∷ ids) h =
      parts_measured (tree_of nodes id) (parts_of (map (tree_of nodes) ids))
      ∙ ap (beside (tree_measure (tree_of nodes id))) (parts_are ids h.1)
      ∙ ap (λ m. beside m (all_of (measure_at (measures_of nodes)) ids)) (sym (at_tree id h.0))

  factors_are : (w : ℕ) (ids : List ExprId) → AreAtoms nodes w ids
      → factors_measure (factors_at (meanings nodes) ids) ≡ all_of (measure_at (measures_of nodes)) ids
  factors_are w [] h = refl
  factors_are w (id ∷ ids) h =
      factors_measured (atom_of nodes id) (factors_at (meanings nodes) ids)
      ∙ ap (beside (atom_measure (atom_of nodes id))) (factors_are w ids h.1)
      ∙ ap (λ m. beside m (all_of (measure_at (measures_of nodes)) ids)) (sym (at_atom w id h.0))

  -- ---- terms

  term_is : (w : ℕ) (t : Term) → AreAtoms nodes w t.ids
      → long_measure (factors_at (meanings nodes) t.ids) ≡ term_measure (measures_of nodes) t
  term_is w t h =
      ap (λ n. with_length n (factors_measure (factors_at (meanings nodes) t.ids)))
      (as_many_factors (meanings nodes) t.ids)
      ∙ ap (with_length (length t.ids))
      (factors_are w t.ids h ∙ sym (fold_is_all (measure_at (measures_of nodes)) t.ids))

  terms_are : (w : ℕ) (ts : List Term) → AreOverAtoms nodes w ts
      → terms_measure (terms_at (meanings nodes) ts) ≡ all_of (term_measure (measures_of nodes)) ts
  terms_are w [] over = refl
  terms_are w (t ∷ ts) over =
      terms_measured (factors_at (meanings nodes) t.ids) t.coefficient (terms_at (meanings nodes) ts)
      ∙ ap (beside (long_measure (factors_at (meanings nodes) t.ids))) (terms_are w ts over.1)
      ∙ ap (λ m. beside m (all_of (term_measure (measures_of nodes)) ts)) (term_is w t over.0)

  -- ---- nodes

  -- The measure of what a node means is told by those of what it names.
  pub node_measured : (n : Node) → MayStand nodes n
      → node_measure (measures_of nodes) n ≡ meant_measure (node_meant (meanings nodes) n)
  node_measured (node.Tree width terms) may =
      let meant = terms_at (meanings nodes) terms in
      sym (tree_measured width.bits meant
      ∙ ap (λ k. around (nat_lt MONOMIALS k) false (terms_measure meant)) (as_many_terms (meanings nodes) terms)
      ∙ ap (around (nat_lt MONOMIALS (length terms)) false)
      (terms_are width.bits terms may.1 ∙ sym (fold_is_all (term_measure (measures_of nodes)) terms)))
  node_measured (node.Atom kind width parts) may =
      let meant = parts_of (map (tree_of nodes) parts) in
      sym (atom_measured kind width.bits meant
      ∙ ap (λ k. around false (is_high_kind kind k) (parts_measure meant)) (as_many_parts nodes parts)
      ∙ ap (around false (is_high_kind kind (length parts)))
      (parts_are parts may.0 ∙ sym (fold_is_all (measure_at (measures_of nodes)) parts)))
