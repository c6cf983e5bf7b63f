-- The order of the codes of trees, of monomials and of atoms, part by part.
use Rattle.std.proofs.Common.{◌≡◌, ℕ, List, [], ◌∷◌, ◌++◌, Ordering, Equal, append_assoc, refl, sym, ap, ◌∙◌}
use Rattle.std.specs.Ordering.{nat_cmp, ordering_then}
use Rattle.scev_tree.specs.Tree.{Tree, Terms, Factors, Atom, Parts, polynomial, no_terms, term, factor, part}
use Rattle.scev_tree.specs.Order.{count_terms, count_factors, coefficients}
use Rattle.scev_tree.specs.Order.{tree_code, terms_code, factors_code, atom_code, parts_code, monomial_code}
use Rattle.scev_tree.proofs.Codes.{trees_apart, factors_apart, atoms_apart, coefficients_apart}
use Rattle.scev_walk.specs.Reading.{code_order}
use Rattle.scev_walk.proofs.CodeOrder.{number_itself, codes_then, then_equal, first_decides}

-- ---- no code is a beginning of another one

monomials_apart : (f g : Factors) (x y : List ℕ) → monomial_code f ++ x ≡ monomial_code g ++ y → (f ≡ g) × (x ≡ y)
monomials_apart f g x y e =
    let count : count_factors f ≡ count_factors g = cc in
    let behind : factors_code f ++ x ≡ factors_code g ++ y = cc in
    factors_apart f g x y count behind

-- of as many terms
monomial_lists_apart : (s t : Terms) (x y : List ℕ) → count_terms s ≡ count_terms t
    → terms_code s ++ x ≡ terms_code t ++ y
    → terms_code s ≡ terms_code t
monomial_lists_apart no_terms no_terms x y n e = refl
monomial_lists_apart no_terms (term g d t) x y n e = absurd cc
monomial_lists_apart (term f c s) no_terms x y n e = absurd cc
monomial_lists_apart (term f c s) (term g d t) x y n e =
    let left = append_assoc (monomial_code f) (terms_code s) x in
    let right = append_assoc (monomial_code g) (terms_code t) y in
    let first = monomials_apart f g (terms_code s ++ x) (terms_code t ++ y) (sym left ∙ e ∙ right) in
    let rest : terms_code s ≡ terms_code t = monomial_lists_apart s t x y (cc) first.1 in
    ap (λ h. monomial_code h ++ terms_code s) first.0 ∙ ap (λ code. monomial_code g ++ code) rest

-- ---- part by part

pub factor_first : (a b : Atom) (f g : Factors) → code_order (factors_code (factor a f)) (factors_code (factor b g))
    ≡ ordering_then (code_order (atom_code a) (atom_code b)) (code_order (factors_code f) (factors_code g))
factor_first a b f g =
    codes_then (atom_code a) (atom_code b) (factors_code f) (factors_code g)
    (λ x y e. ap atom_code (atoms_apart a b x y e).0)

pub part_first : (a b : Tree) (p q : Parts) → code_order (parts_code (part a p)) (parts_code (part b q))
    ≡ ordering_then (code_order (tree_code a) (tree_code b)) (code_order (parts_code p) (parts_code q))
part_first a b p q =
    codes_then (tree_code a) (tree_code b) (parts_code p) (parts_code q)
    (λ x y e. ap tree_code (trees_apart a b x y e).0)

pub monomial_first : (f g : Factors) (c d : ℕ) (s t : Terms)
    → code_order (terms_code (term f c s)) (terms_code (term g d t))
    ≡ ordering_then (code_order (monomial_code f) (monomial_code g)) (code_order (terms_code s) (terms_code t))
monomial_first f g c d s t =
    codes_then (monomial_code f) (monomial_code g) (terms_code s) (terms_code t)
    (λ x y e. ap monomial_code (monomials_apart f g x y e).0)

-- two widths
width_last : (w v : ℕ) → code_order (w ∷ []) (v ∷ []) ≡ nat_cmp w v
width_last w v = then_equal (nat_cmp w v)

-- A tree of as many terms is its monomials, then its coefficients, and last its width.
tree_parts : (w v : ℕ) (s t : Terms) → count_terms s ≡ count_terms t
    → code_order (tree_code (polynomial w s)) (tree_code (polynomial v t))
    ≡ ordering_then (code_order (terms_code s) (terms_code t))
    (ordering_then (code_order (coefficients s) (coefficients t)) (nat_cmp w v))
tree_parts w v s t n =
    let first : nat_cmp (count_terms s) (count_terms t) ≡ Equal =
    ap (λ k. nat_cmp (count_terms s) k) (sym n) ∙ number_itself (count_terms s) in
    ap (λ o. ordering_then o (code_order (terms_code s ++ (coefficients s ++ w ∷ []))
    (terms_code t ++ (coefficients t ++ v ∷ [])))) first
    ∙ codes_then (terms_code s) (terms_code t) (coefficients s ++ w ∷ []) (coefficients t ++ v ∷ [])
    (λ x y e. monomial_lists_apart s t x y n e)
    ∙ ap (ordering_then (code_order (terms_code s) (terms_code t)))
    (codes_then (coefficients s) (coefficients t) (w ∷ []) (v ∷ []) (λ x y e. (coefficients_apart s t x y n e).0)
    ∙ ap (ordering_then (code_order (coefficients s) (coefficients t))) (width_last w v))

-- Where the counts differ they decide.
pub count_decides : (l r m n : ℕ) (x y : List ℕ) (o : Ordering) → m ≡ l → n ≡ r → o ≡ nat_cmp l r
    → (o ≡ Equal → ⊥)
    → o ≡ code_order (m ∷ x) (n ∷ y)
count_decides l r m n x y o left right e differ =
    sym (first_decides o (code_order x y) differ)
    ∙ ap (λ p. ordering_then p (code_order x y)) (e ∙ ap (λ k. nat_cmp k r) (sym left) ∙ ap (nat_cmp m) (sym right))

-- Where they are one, what is behind them does.
pub behind_count : (l r m n : ℕ) (x y : List ℕ) (o : Ordering) → m ≡ l → n ≡ r → Equal ≡ nat_cmp l r
    → o ≡ code_order x y
    → o ≡ code_order (m ∷ x) (n ∷ y)
behind_count l r m n x y o left right e f =
    f
    ∙ ap (λ p. ordering_then p (code_order x y)) (e ∙ ap (λ k. nat_cmp k r) (sym left) ∙ ap (nat_cmp m) (sym right))

-- ---- trees of which the count of monomials decides, or the monomials, or the coefficients

pub counts_decide : (w v l r : ℕ) (s t : Terms) (o : Ordering) → count_terms s ≡ l → count_terms t ≡ r
    → o ≡ nat_cmp l r
    → (o ≡ Equal → ⊥)
    → ordering_then o (nat_cmp w v) ≡ code_order (tree_code (polynomial w s)) (tree_code (polynomial v t))
counts_decide w v l r s t o left right e differ =
    first_decides o (nat_cmp w v) differ
    ∙ count_decides l r (count_terms s) (count_terms t) (terms_code s ++ (coefficients s ++ w ∷ []))
    (terms_code t ++ (coefficients t ++ v ∷ [])) o left right e differ

pub monomials_decide : (w v : ℕ) (s t : Terms) (o : Ordering) → count_terms s ≡ count_terms t
    → o ≡ code_order (terms_code s) (terms_code t)
    → (o ≡ Equal → ⊥)
    → ordering_then o (nat_cmp w v) ≡ code_order (tree_code (polynomial w s)) (tree_code (polynomial v t))
monomials_decide w v s t o n e differ =
    first_decides o (nat_cmp w v) differ
    ∙ sym (first_decides o (ordering_then (code_order (coefficients s) (coefficients t)) (nat_cmp w v)) differ)
    ∙ ap (λ p. ordering_then p (ordering_then (code_order (coefficients s) (coefficients t)) (nat_cmp w v))) e
    ∙ sym (tree_parts w v s t n)

pub coefficients_decide : (w v : ℕ) (s t : Terms) (o : Ordering) → count_terms s ≡ count_terms t
    → Equal ≡ code_order (terms_code s) (terms_code t)
    → o ≡ code_order (coefficients s) (coefficients t)
    → ordering_then o (nat_cmp w v) ≡ code_order (tree_code (polynomial w s)) (tree_code (polynomial v t))
coefficients_decide w v s t o n e f =
    ap (λ p. ordering_then p (nat_cmp w v)) f
    ∙ ap (λ p. ordering_then p (ordering_then (code_order (coefficients s) (coefficients t)) (nat_cmp w v))) e
    ∙ sym (tree_parts w v s t n)
