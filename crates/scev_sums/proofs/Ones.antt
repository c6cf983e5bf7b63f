-- Which trees are the constant 1.
use Rattle.std.proofs.Common.{◌≡◌, ℕ, suc, ◌<◌, ◌≤◌, Bool, false, ◌&&◌, ◌==◌, if◌then◌else◌, List, [], ◌∷◌, length}
use Rattle.std.proofs.Common.{get_or, refl, sym, ap, ◌∙◌, arith, mod-eq_of_lt}
use Rattle.std.specs.Bool.{Decides}
use Rattle.std.proofs.lemmas.Bool.{false_from_ne_true}
use Rattle.std.proofs.lemmas.Bool.Decides.{same_from_decides, Decides-eqb, nat_tests}
use Rattle.std.proofs.lemmas.Nat.{pow_below}
use Rattle.scev_base.specs.declared.ids.ExprId.{ExprId}
use Rattle.scev_tree.specs.Tree.{Tree, polynomial, no_terms, term, no_factors, constant}
use Rattle.scev_tree.specs.Order.{tree_code}
use Rattle.scev_tree.proofs.Lower.{same_code_decides}
use Rattle.scev_tree.proofs.Codes.{one_tree}
use Rattle.poly_terms.specs.declared.term.Term.{Term}
use Rattle.scev_arena.specs.Meaning.{Meant, terms_at, factors_at}
use Rattle.scev_forms.specs.Sums.{same_tree}

-- `same_tree` tells exactly whether two trees are one
pub same_tree_decides : (a b : Tree) → Decides (same_tree a b) (a ≡ b)
same_tree_decides a b =
    let codes = same_code_decides (tree_code a) (tree_code b) in
    (λ h. one_tree a b (codes.0 h), λ e. codes.1 (ap tree_code e))

trees_apart : (a b : Tree) → (a ≡ b → ⊥) → same_tree a b ≡ false
trees_apart a b apart = false_from_ne_true (same_tree a b) (λ h. apart ((same_tree_decides a b).0 h))

-- one more isn't none
pub not_none : (n : ℕ) → (suc n == 0) ≡ false
not_none n = grind (arith, nat_tests)

-- the monomial without factors, alone and with the coefficient 1
abbrev pub are_one : List Term → Bool
are_one [] = false
are_one (t ∷ []) = (length t.ids == 0) && (t.coefficient == 1)
are_one (t ∷ u ∷ terms) = false

pub none_are_one : (terms : List Term) → length terms < 1 → are_one terms ≡ false
none_are_one [] few = refl
none_are_one (t ∷ terms) few = absurd (omega arith)

pub many_are_not_one : (terms : List Term) → 2 ≤ length terms → are_one terms ≡ false
many_are_not_one [] many = absurd (omega arith)
many_are_not_one (t ∷ []) many = absurd (omega arith)
many_are_not_one (t ∷ u ∷ terms) many = refl

pub only_is_one : (terms : List Term) (only : Term) → 1 ≤ length terms → length terms < 2
    → only ≡ get_or terms 0 only
    → are_one terms ≡ ((length only.ids == 0) && (only.coefficient == 1))
only_is_one [] only some few e = absurd (omega arith)
only_is_one (t ∷ []) only some few e =
    ap (λ (s : Term). (length s.ids == 0) && (s.coefficient == 1)) (sym e)
only_is_one (t ∷ u ∷ terms) only some few e = absurd (omega arith)

module _ (meant : List Meant) (w : ℕ) where
  abbrev one : Tree
  one = polynomial w (term no_factors 1 no_terms)

  -- one monomial with a coefficient
  monomial : (ids : List ExprId) (n : ℕ)
      → same_tree (polynomial w (term (factors_at meant ids) n no_terms)) one ≡ ((length ids == 0) && (n == 1))
  monomial [] n =
      let tree : ℕ → Tree = λ k. polynomial w (term no_factors k no_terms) in
      let same = same_tree_decides (tree n) one in
      same_from_decides (same_tree (tree n) one) (n == 1)
      (λ h. let e = same.0 h in cc, λ e. same.1 (ap tree e))
      (Decides-eqb n 1)
  monomial (id ∷ ids) n =
      trees_apart (polynomial w (term (factors_at meant (id ∷ ids)) n no_terms)) one (λ e. cc)
      ∙ ap (λ b. b && (n == 1)) (sym (not_none (length ids)))

  told : (terms : List Term) → same_tree (polynomial w (terms_at meant terms)) one ≡ are_one terms
  told [] = trees_apart (polynomial w no_terms) one (λ e. cc)
  told (t ∷ []) = monomial t.ids t.coefficient
  told (t ∷ u ∷ terms) = trees_apart (polynomial w (terms_at meant (t ∷ u ∷ terms))) one (λ e. cc)

  -- 1 isn't 0 modulo 2^w
  one_of_it : 1 ≤ w → constant w 1 ≡ one
  one_of_it some =
      let tree : ℕ → Tree = λ n. if n == 0 then polynomial w no_terms else polynomial w (term no_factors n no_terms) in
      ap tree (mod-eq_of_lt (pow_below 0 w some))

  -- whether a tree of these terms is the constant 1
  pub told_one : (tree : Tree) (terms : List Term) → 1 ≤ w
      → tree ≡ polynomial w (terms_at meant terms)
      → same_tree tree (constant w 1) ≡ are_one terms
  told_one tree terms some e =
      ap (λ t. same_tree t (constant w 1)) e
      ∙ ap (same_tree (polynomial w (terms_at meant terms))) (one_of_it some)
      ∙ told terms
