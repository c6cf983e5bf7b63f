-- Codes are injective, and no code is the beginning of another one.
use Rattle.std.proofs.Common.{◌≡◌, ℕ, List, [], ◌∷◌, ◌++◌, Some, None, append_assoc, refl, ap}
use Rattle.scev_base.specs.declared.ids.LoopId.{LoopId}
use Rattle.scev_base.specs.declared.ids.ValueId.{ValueId}
use Rattle.scev_tree.specs.declared.kind.Kind.{Kind}
use Rattle.scev_tree.specs.declared.kind.Kind.TheVariants as kind
use Rattle.scev_tree.specs.Tree.{Tree, Terms, Factors, Atom, Parts, polynomial, no_terms, term, no_factors, factor}
use Rattle.scev_tree.specs.Tree.{atom, no_parts, part}
use Rattle.scev_tree.specs.Order.{rank, numbers, count_terms, count_factors, count_parts, coefficients}
use Rattle.scev_tree.specs.Order.{tree_code, terms_code, factors_code, atom_code, parts_code, monomial_code}

-- a loop is known by its number
same_loop : (l m : LoopId) → l.0 ≡ m.0 → l ≡ m
same_loop l m e = ap (λ n. record { 0 = n }) e

-- a register is known by its number
same_register : (r s : ValueId) → r.0 ≡ s.0 → r ≡ s
same_register r s e = ap (λ n. record { 0 = n }) e

-- a kind is known by its rank and its numbers, and how many these are by the rank
one_kind : (k k' : Kind) (x y : List ℕ)
    → rank k ≡ rank k'
    → numbers k ++ x ≡ numbers k' ++ y
    → (k ≡ k') × (x ≡ y)
one_kind kind.Trunc kind.Trunc x y r e = (refl, e)
one_kind kind.Zext kind.Zext x y r e = (refl, e)
one_kind kind.Sext kind.Sext x y r e = (refl, e)
one_kind kind.Udiv kind.Udiv x y r e = (refl, e)
one_kind kind.Smax kind.Smax x y r e = (refl, e)
one_kind kind.Umax kind.Umax x y r e = (refl, e)
one_kind kind.Smin kind.Smin x y r e = (refl, e)
one_kind kind.Umin kind.Umin x y r e = (refl, e)
one_kind kind.Seq kind.Seq x y r e = (refl, e)
one_kind (kind.Rec l) (kind.Rec m) x y r e =
    let number : l.0 ≡ m.0 = cc in
    let loops : l ≡ m = same_loop l m number in
    (cc, cc)
one_kind (kind.Leaf r None) (kind.Leaf s None) x y _ e =
    let number : r.0 ≡ s.0 = cc in
    let registers : r ≡ s = same_register r s number in
    (cc, cc)
one_kind (kind.Leaf r (Some l)) (kind.Leaf s (Some m)) x y _ e =
    let number : r.0 ≡ s.0 = cc in
    let loop_number : l.0 ≡ m.0 = cc in
    let registers : r ≡ s = same_register r s number in
    let loops : l ≡ m = same_loop l m loop_number in
    (cc, cc)
one_kind _ _ x y r e = absurd cc

-- coefficients of as many terms
pub coefficients_apart : (s t : Terms) (x y : List ℕ)
    → count_terms s ≡ count_terms t
    → coefficients s ++ x ≡ coefficients t ++ y
    → (coefficients s ≡ coefficients t) × (x ≡ y)
coefficients_apart no_terms no_terms x y n e = (refl, e)
coefficients_apart no_terms (term g d t) x y n e = absurd cc
coefficients_apart (term f c s) no_terms x y n e = absurd cc
coefficients_apart (term f c s) (term g d t) x y n e =
    let rest = coefficients_apart s t x y (cc) (cc) in
    (cc, rest.1)

-- by its code, a tree and what stands behind it; and the same of terms, factors and parts of one count, and of atoms
mutual
  pub trees_apart : (a b : Tree) (x y : List ℕ)
      → tree_code a ++ x ≡ tree_code b ++ y
      → (a ≡ b) × (x ≡ y)
  trees_apart (polynomial w s) (polynomial v t) x y e =
      let count : count_terms s ≡ count_terms t = cc in
      let left = append_assoc (terms_code s) (coefficients s ++ w ∷ []) x in
      let left' = append_assoc (coefficients s) (w ∷ []) x in
      let right = append_assoc (terms_code t) (coefficients t ++ v ∷ []) y in
      let right' = append_assoc (coefficients t) (v ∷ []) y in
      let terms = terms_apart s t (coefficients s ++ (w ∷ x)) (coefficients t ++ (v ∷ y)) count (cc) in
      let numbers = coefficients_apart s t (w ∷ x) (v ∷ y) count terms.1 in
      let same : s ≡ t = terms.0 numbers.0 in
      let ends : w ∷ x ≡ v ∷ y = numbers.1 in
      (cc, cc)

  -- the monomials are the same, so the terms are where their coefficients are
  pub terms_apart : (s t : Terms) (x y : List ℕ)
      → count_terms s ≡ count_terms t
      → terms_code s ++ x ≡ terms_code t ++ y
      → (coefficients s ≡ coefficients t → s ≡ t) × (x ≡ y)
  terms_apart no_terms no_terms x y n e = (λ _. refl, e)
  terms_apart no_terms (term g d t) x y n e = absurd cc
  terms_apart (term f c s) no_terms x y n e = absurd cc
  terms_apart (term f c s) (term g d t) x y n e =
      let count : count_factors f ≡ count_factors g = cc in
      let left = append_assoc (factors_code f) (terms_code s) x in
      let right = append_assoc (factors_code g) (terms_code t) y in
      let first = factors_apart f g (terms_code s ++ x) (terms_code t ++ y) count (cc) in
      let rest = terms_apart s t x y (cc) first.1 in
      (λ numbers. let same : s ≡ t = rest.0 (cc) in let factors : f ≡ g = first.0 in cc, rest.1)

  pub factors_apart : (f g : Factors) (x y : List ℕ)
      → count_factors f ≡ count_factors g
      → factors_code f ++ x ≡ factors_code g ++ y
      → (f ≡ g) × (x ≡ y)
  factors_apart no_factors no_factors x y n e = (refl, e)
  factors_apart no_factors (factor b g) x y n e = absurd cc
  factors_apart (factor a f) no_factors x y n e = absurd cc
  factors_apart (factor a f) (factor b g) x y n e =
      let left = append_assoc (atom_code a) (factors_code f) x in
      let right = append_assoc (atom_code b) (factors_code g) y in
      let first = atoms_apart a b (factors_code f ++ x) (factors_code g ++ y) (cc) in
      let rest = factors_apart f g x y (cc) first.1 in
      (cc (first.0, rest.0), rest.1)

  pub atoms_apart : (a b : Atom) (x y : List ℕ)
      → atom_code a ++ x ≡ atom_code b ++ y
      → (a ≡ b) × (x ≡ y)
  atoms_apart (atom k w p) (atom l v q) x y e =
      let left = append_assoc (numbers k) (count_parts p ∷ parts_code p) x in
      let right = append_assoc (numbers l) (count_parts q ∷ parts_code q) y in
      let behind = count_parts p ∷ (parts_code p ++ x) in
      let behind' = count_parts q ∷ (parts_code q ++ y) in
      let kinds = one_kind k l behind behind' (cc) (cc) in
      let ends : behind ≡ behind' = kinds.1 in
      let rest = parts_apart p q x y (cc) (cc) in
      (cc (kinds.0, rest.0), rest.1)

  pub parts_apart : (p q : Parts) (x y : List ℕ)
      → count_parts p ≡ count_parts q
      → parts_code p ++ x ≡ parts_code q ++ y
      → (p ≡ q) × (x ≡ y)
  parts_apart no_parts no_parts x y n e = (refl, e)
  parts_apart no_parts (part b q) x y n e = absurd cc
  parts_apart (part a p) no_parts x y n e = absurd cc
  parts_apart (part a p) (part b q) x y n e =
      let left = append_assoc (tree_code a) (parts_code p) x in
      let right = append_assoc (tree_code b) (parts_code q) y in
      let first = trees_apart a b (parts_code p ++ x) (parts_code q ++ y) (cc) in
      let rest = parts_apart p q x y (cc) first.1 in
      (cc (first.0, rest.0), rest.1)

-- trees of one code are one
pub one_tree : (a b : Tree) → tree_code a ≡ tree_code b → a ≡ b
one_tree a b e = (trees_apart a b [] [] (ap (λ code. code ++ []) e)).0

-- atoms of one code are one
pub one_atom : (a b : Atom) → atom_code a ≡ atom_code b → a ≡ b
one_atom a b e = (atoms_apart a b [] [] (ap (λ code. code ++ []) e)).0

-- monomials of one code are one
pub one_monomial : (f g : Factors) → monomial_code f ≡ monomial_code g → f ≡ g
one_monomial f g e =
    let codes : factors_code f ≡ factors_code g = cc in
    (factors_apart f g [] [] (cc) (ap (λ code. code ++ []) codes)).0
