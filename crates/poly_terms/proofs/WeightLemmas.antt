-- Sums over the terms of a polynomial, and their residues.
use Rattle.std.proofs.Common.{◌≡◌, ℕ, ◌+◌, ◌*◌, ◌^◌, ◌%◌, ◌≤◌, List, [], ◌∷◌, ◌++◌, refl, sym, ap, ◌∙◌, arith}
use Rattle.std.proofs.Math.Nat.{add-mod-mod, mod-add-mod}
use Rattle.std.proofs.lemmas.Nat.{mul-mod_second}
use Rattle.scev_base.proofs.Congruence.{mod-mod_pow}
use Rattle.scev_base.specs.declared.ids.ExprId.{ExprId}
use Rattle.poly_terms.specs.declared.term.Term.{Term}
use Rattle.poly_terms.specs.Weights.{weight}

-- The sum of numbers has the residue of the sum of their residues.
pub sum_residue : (modulus a a' b b' : ℕ) → a % modulus ≡ a' % modulus → b % modulus ≡ b' % modulus → (a + b) % modulus ≡ (a' + b') % modulus
sum_residue modulus a a' b b' h h' =
    sym (mod-add-mod a modulus b)
    ∙ ap (λ k. (k + b) % modulus) h
    ∙ mod-add-mod a' modulus b
    ∙ sym (add-mod-mod a' b modulus)
    ∙ ap (λ k. (a' + k) % modulus) h'
    ∙ add-mod-mod a' b' modulus

pub weight_both : (number : List ExprId → ℕ) (ss ts : List Term) → weight number (ss ++ ts) ≡ weight number ss + weight number ts
unfolding weight
weight_both number [] ts = omega arith
weight_both number (s ∷ ss) ts = omega (arith, weight_both number ss ts)

-- One term more at the end.
pub weight_more : (number : List ExprId → ℕ) (ss : List Term) (t : Term) → weight number (ss ++ t ∷ []) ≡ weight number ss + number t.ids * t.coefficient
unfolding weight
weight_more number ss t = omega (arith, weight_both number ss (t ∷ []))

-- Two coefficients of one monomial are added.
pub joined : (modulus m n c d x y : ℕ) → (m + n * ((c + d) % modulus) + (x + y)) % modulus ≡ (m + ((n * c + x) + (n * d + y))) % modulus
joined modulus m n c d x y =
    let first : m + n * ((c + d) % modulus) + (x + y) ≡ (m + (x + y)) + n * ((c + d) % modulus) = omega arith in
    let last : (m + (x + y)) + n * (c + d) ≡ m + ((n * c + x) + (n * d + y)) = omega arith in
    ap (λ k. k % modulus) first
    ∙ sum_residue modulus (m + (x + y)) (m + (x + y)) (n * ((c + d) % modulus)) (n * (c + d)) refl (mul-mod_second n (c + d) modulus)
    ∙ ap (λ k. k % modulus) last

-- A number modulo 2^64 has the same lowest bits.
pub low_of_64 : (n w : ℕ) → w ≤ 64 → n % 2 ^ 64 % 2 ^ w ≡ n % 2 ^ w
low_of_64 n w fits = mod-mod_pow n w 64 fits

term_of : List ExprId → ℕ → Term
term_of ids coefficient = record { ids = ids; coefficient = coefficient }

-- A term is known by its parts.
pub term_is : (t : Term) (ids : List ExprId) (coefficient : ℕ) → t.ids ≡ ids → t.coefficient ≡ coefficient → t ≡ record { ids = ids; coefficient = coefficient }
unfolding term_of
term_is t ids coefficient e e' = ap (λ l. term_of l t.coefficient) e ∙ ap (term_of ids) e'
