-- One of several places.
use Rattle.std.proofs.Common.{◌≡◌, ℕ, zero, suc, ◌<◌, List, [], ◌∷◌, length, get_or, sym, ap, subst, ◌∙◌, arith}
use Rattle.scev_base.specs.declared.ids.ExprId.{ExprId}
use Rattle.poly_terms.specs.declared.term.Term.{Term}
use Rattle.scev_arena.specs.declared.node.Node.{Node}
use Rattle.scev_arena.specs.Standing.{IsTreeAt, IsAtomAt, AreTrees, AreAtoms, AreOverAtoms}

module _ (nodes : List Node) where
  pub tree_among : (ids : List ExprId) (at : ℕ) (d id : ExprId) → AreTrees nodes ids → at < length ids
      → id ≡ get_or ids at d
      → IsTreeAt nodes id
  tree_among [] at d id h within e = absurd (omega arith)
  tree_among (x ∷ ids) zero d id h within e = subst (IsTreeAt nodes) (sym e) h.0
  tree_among (x ∷ ids) (suc at) d id h within e = tree_among ids at d id h.1 (omega arith) e

  pub atom_among : (w : ℕ) (ids : List ExprId) (at : ℕ) (d id : ExprId) → AreAtoms nodes w ids → at < length ids
      → id ≡ get_or ids at d
      → IsAtomAt nodes w id
  atom_among w [] at d id h within e = absurd (omega arith)
  atom_among w (x ∷ ids) zero d id h within e = subst (IsAtomAt nodes w) (sym e) h.0
  atom_among w (x ∷ ids) (suc at) d id h within e = atom_among w ids at d id h.1 (omega arith) e

  pub term_among : (w : ℕ) (ts : List Term) (at : ℕ) (d t : Term) → AreOverAtoms nodes w ts → at < length ts
      → t ≡ get_or ts at d
      → AreAtoms nodes w t.ids
  term_among w [] at d t h within e = absurd (omega arith)
  term_among w (s ∷ ts) zero d t h within e = subst (λ (u : Term). AreAtoms nodes w u.ids) (sym e) h.0
  term_among w (s ∷ ts) (suc at) d t h within e = term_among w ts at d t h.1 (omega arith) e

-- the factors of a term that is read in its place
pub ids_of : {ids : List ExprId} {t u : Term} → ids ≡ u.ids → t ≡ u → ids ≡ t.ids
ids_of e f = e ∙ ap (λ (t : Term). t.ids) (sym f)
