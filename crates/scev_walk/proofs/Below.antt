-- What stands at a place is made of what stands below it.
use Rattle.std.proofs.Common.{◌≡◌, ℕ, zero, suc, ◌<◌, ◌≤◌, List, [], ◌∷◌, length, get_or, take, sym, ap, subst, arith}
use Rattle.scev_base.specs.declared.ids.ExprId.{ExprId}
use Rattle.poly_terms.specs.declared.term.Term.{Term}
use Rattle.scev_arena.specs.declared.node.Node.{Node}
use Rattle.scev_arena.specs.Standing.{AreTrees, AreAtoms, AreOverAtoms}
use Rattle.scev_arena.proofs.WellMade.{tree_within, atom_within}
use Rattle.scev_walk.specs.Reading.{AreBelow, AreOverBelow}

-- a beginning is no longer than what was asked for
front_length : {A : Type 0} (xs : List A) (i : ℕ) → length (take i xs) ≤ i
front_length xs zero = omega arith
front_length [] (suc i) = omega arith
front_length (x ∷ xs) (suc i) = let rest = front_length xs i in omega arith

module _ (nodes : List Node) (i : ℕ) where
  pub trees_below : (ids : List ExprId) → AreTrees (take i nodes) ids → AreBelow i ids
  trees_below [] h = tt
  trees_below (id ∷ ids) h =
      let within = tree_within (take i nodes) id h.0 in
      let front = front_length nodes i in
      (omega arith, trees_below ids h.1)

  atoms_below : (w : ℕ) (ids : List ExprId) → AreAtoms (take i nodes) w ids → AreBelow i ids
  atoms_below w [] h = tt
  atoms_below w (id ∷ ids) h =
      let within = atom_within (take i nodes) w id h.0 in
      let front = front_length nodes i in
      (omega arith, atoms_below w ids h.1)

  pub terms_below : (w : ℕ) (ts : List Term) → AreOverAtoms (take i nodes) w ts → AreOverBelow i ts
  terms_below w [] h = tt
  terms_below w (t ∷ ts) h = (atoms_below w t.ids h.0, terms_below w ts h.1)

-- ---- one of several

pub below_among : (n : ℕ) (ids : List ExprId) (at : ℕ) (d id : ExprId) → AreBelow n ids → at < length ids
    → id ≡ get_or ids at d
    → id.0 < n
below_among n [] at d id h within e = absurd (omega arith)
below_among n (x ∷ ids) zero d id h within e =
    let same : id.0 ≡ x.0 = ap (λ (y : ExprId). y.0) e in
    let less = h.0 in
    omega arith
below_among n (x ∷ ids) (suc at) d id h within e = below_among n ids at d id h.1 (omega arith) e

pub over_below_among : (n : ℕ) (ts : List Term) (at : ℕ) (d t : Term) → AreOverBelow n ts → at < length ts
    → t ≡ get_or ts at d
    → AreBelow n t.ids
over_below_among n [] at d t h within e = absurd (omega arith)
over_below_among n (s ∷ ts) zero d t h within e = subst (λ (u : Term). AreBelow n u.ids) (sym e) h.0
over_below_among n (s ∷ ts) (suc at) d t h within e = over_below_among n ts at d t h.1 (omega arith) e
