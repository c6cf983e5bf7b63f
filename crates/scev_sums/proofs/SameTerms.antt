-- Polynomials over an arena are one tree exactly where their terms are equal.
use Rattle.std.proofs.Common.{◌≡◌, ℕ, true, ◌==◌, List, [], ◌∷◌, refl, ap, ◌∙◌, subst}
use Rattle.std.specs.Bool.{Decides}
use Rattle.std.specs.Cmp.Lexicographic.{pointwise}
use Rattle.std.proofs.lemmas.Bool.Decides.{Decides-eqb, Decides-and, same_from_decides}
use Rattle.std.proofs.lemmas.Slice.Eq.{slice_eq-Decides}
use Rattle.scev_base.specs.declared.ids.ExprId.{ExprId}
use Rattle.poly_terms.specs.declared.term.Term.{Term}
use Rattle.poly_terms.specs.contracts.term.TermPartialEq.TheImpl.{eq-value}
use Rattle.scev_tree.specs.Tree.{polynomial}
use Rattle.scev_tree.specs.Order.{tree_code}
use Rattle.scev_tree.proofs.Codes.{one_tree}
use Rattle.scev_tree.proofs.Lower.{told_same, same_itself}
use Rattle.scev_arena.specs.declared.node.Node.{Node}
use Rattle.scev_arena.specs.Nodes.{same_id}
use Rattle.scev_arena.specs.NodeLaws.{one_id, one_term}
use Rattle.scev_arena.specs.Meaning.{meanings, terms_at, factors_at, atom_of}
use Rattle.scev_arena.specs.Standing.{AreAtoms, AreOverAtoms, IsArena}
use Rattle.scev_arena.proofs.WellMade.{well_made}
use Rattle.scev_arena.proofs.OnePlace.{arena_apart, one_atom_place}
use Rattle.scev_forms.specs.Sums.{same_tree}
use Rattle.scev_polys.specs.Polynomials.{IsPolynomial}

-- ---- the tests of places

id_decides : (x y : ExprId) → Decides (same_id x y) (x ≡ y)
id_decides x y = (λ h. one_id x y ((Decides-eqb x.0 y.0).0 h), λ e. (Decides-eqb x.0 y.0).1 (ap (λ z. z.0) e))

ids_decide : (xs ys : List ExprId) → Decides (pointwise same_id xs ys) (xs ≡ ys)
ids_decide xs ys = slice_eq-Decides id_decides xs ys (pointwise same_id xs ys) refl

term_decides : (s t : Term) → Decides (eq-value.it s t) (s ≡ t)
term_decides s t =
    let both = Decides-and (pointwise same_id s.ids t.ids) (s.coefficient == t.coefficient) (ids_decide s.ids t.ids)
    (Decides-eqb s.coefficient t.coefficient) in
    (λ h. one_term s t (both.0 h).0 (both.0 h).1, λ e. both.1 (ap (λ u. u.ids) e, ap (λ u. u.coefficient) e))

terms_decide : (ss ts : List Term) → Decides (pointwise eq-value.it ss ts) (ss ≡ ts)
terms_decide ss ts = slice_eq-Decides term_decides ss ts (pointwise eq-value.it ss ts) refl

-- ---- what the places hold

module _ (nodes : List Node) (arena : IsArena nodes) (w : ℕ) where
  -- places of the same factors are one list
  one_list_of_factors : (xs ys : List ExprId) → AreAtoms nodes w xs → AreAtoms nodes w ys
      → factors_at (meanings nodes) xs ≡ factors_at (meanings nodes) ys
      → xs ≡ ys
  one_list_of_factors [] [] hx hy e = refl
  one_list_of_factors [] (y ∷ ys) hx hy e = absurd (cc e)
  one_list_of_factors (x ∷ xs) [] hx hy e = absurd (cc e)
  one_list_of_factors (x ∷ xs) (y ∷ ys) hx hy e =
      let first : atom_of nodes x ≡ atom_of nodes y = cc e in
      let others : factors_at (meanings nodes) xs ≡ factors_at (meanings nodes) ys = cc e in
      let place = one_atom_place nodes (well_made nodes arena) (arena_apart nodes arena) w w x y hx.0 hy.0 first in
      ap (λ id. id ∷ xs) (one_id x y place) ∙ ap (λ ids. y ∷ ids) (one_list_of_factors xs ys hx.1 hy.1 others)

  -- terms of the same monomials and coefficients are one list
  one_list_of_terms : (ss ts : List Term) → AreOverAtoms nodes w ss → AreOverAtoms nodes w ts
      → terms_at (meanings nodes) ss ≡ terms_at (meanings nodes) ts
      → ss ≡ ts
  one_list_of_terms [] [] hs ht e = refl
  one_list_of_terms [] (t ∷ ts) hs ht e = absurd (cc e)
  one_list_of_terms (s ∷ ss) [] hs ht e = absurd (cc e)
  one_list_of_terms (s ∷ ss) (t ∷ ts) hs ht e =
      let monomials : factors_at (meanings nodes) s.ids ≡ factors_at (meanings nodes) t.ids = cc e in
      let coefficients : s.coefficient ≡ t.coefficient = cc e in
      let others : terms_at (meanings nodes) ss ≡ terms_at (meanings nodes) ts = cc e in
      let ids = one_list_of_factors s.ids t.ids hs.0 ht.0 monomials in
      ap (λ u. u ∷ ss) (one_term s t ids coefficients)
      ∙ ap (λ us. t ∷ us) (one_list_of_terms ss ts hs.1 ht.1 others)

  -- the trees are one exactly where the terms are
  trees_decide : (ss ts : List Term) → AreOverAtoms nodes w ss → AreOverAtoms nodes w ts
      → Decides (same_tree (polynomial w (terms_at (meanings nodes) ss))
      (polynomial w (terms_at (meanings nodes) ts))) (ss ≡ ts)
  trees_decide ss ts hs ht =
      let a = polynomial w (terms_at (meanings nodes) ss) in
      let b = polynomial w (terms_at (meanings nodes) ts) in (
        (λ h.
            let whole = one_tree a b (told_same (tree_code a) (tree_code b) h) in
            let e : terms_at (meanings nodes) ss ≡ terms_at (meanings nodes) ts = cc whole in
            one_list_of_terms ss ts hs ht e),
        (λ e. subst (λ l. same_tree a (polynomial w (terms_at (meanings nodes) l)) ≡ true) e
            (same_itself (tree_code a))),
      )

  pub terms_tell : (ss ts : List Term) → IsPolynomial nodes w ss → IsPolynomial nodes w ts
      → pointwise eq-value.it ss ts
      ≡ same_tree (polynomial w (terms_at (meanings nodes) ss)) (polynomial w (terms_at (meanings nodes) ts))
  terms_tell ss ts hs ht =
      same_from_decides (pointwise eq-value.it ss ts)
      (same_tree (polynomial w (terms_at (meanings nodes) ss)) (polynomial w (terms_at (meanings nodes) ts)))
      (terms_decide ss ts) (trees_decide ss ts hs.over ht.over)
