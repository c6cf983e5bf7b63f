-- The parts of quotients.
use Rattle.std.proofs.Common.{◌≡◌, ℕ, ◌*◌, ◌/◌, ◌%◌, ◌^◌, ◌<◌, ◌≤◌, ◌==◌, nat_lt, Bool, true, false}
use Rattle.std.proofs.Common.{if◌then◌else◌, inl, inr}
use Rattle.std.proofs.Common.{List, [], ◌∷◌, length, map, None, Some, refl, sym, ap, ap₂, ◌∙◌, arith}
use Rattle.std.proofs.lemmas.Bool.{lt-ltb, le-ltb, cases_lt, eq-eqb, ne_eqb}
use Rattle.std.proofs.lemmas.List.{length-map}
use Rattle.std.proofs.Math.Nat.{mod-eq_of_lt}
use Rattle.scev_base.specs.declared.ids.ExprId.{ExprId}
use Rattle.scev_tree.specs.declared.kind.Kind.{Kind}
use Rattle.scev_tree.specs.declared.kind.Kind.TheVariants as kind
use Rattle.scev_tree.specs.Tree.{Tree, atom, parts_of, constant}
use Rattle.scev_arena.specs.declared.node.Node.{Node}
use Rattle.scev_arena.specs.Meaning.{tree_of, atom_of}
use Rattle.scev_forms.specs.Outcome.{Done}
use Rattle.scev_forms.specs.Atoms.{number_of, alone, made}
use Rattle.scev_forms.specs.Quotients.{by_both, atom_quotient, quotient_by, tree_quotient}
use Rattle.scev_sums.specs.Answers.{GoesOn, IsTreeOfAt}
use Rattle.scev_sums.proofs.Growth.{same_tree_goes_on}
use Rattle.scev_minima.specs.Quotients.{quotient_parts}

-- an atom has no parts of a quotient, if it hasn't two
not_two : (v : ℕ) (trees : List Tree) → (length trees ≡ 2 → ⊥)
    → quotient_parts (Some (atom kind.Udiv v (parts_of trees))) ≡ None
not_two v [] other = refl
not_two v (x ∷ []) other = refl
not_two v (x ∷ y ∷ []) other = absurd (other refl)
not_two v (x ∷ y ∷ z ∷ trees) other = refl

-- the same of the atom that a tree is alone
pub no_quotient : (nodes : List Node) (tree : Tree) (id : ExprId) (k : Kind) (v : ℕ) (ids : List ExprId)
    → Some (atom_of nodes id) ≡ alone tree
    → atom_of nodes id ≡ atom k v (parts_of (map (tree_of nodes) ids))
    → k ≡ kind.Udiv
    → (length ids ≡ 2 → ⊥)
    → None ≡ quotient_parts (alone tree)
no_quotient nodes tree id k v ids one is same other =
    sym (
    ap quotient_parts (sym one ∙ ap Some is ∙ ap (λ l. Some (atom l v (parts_of (map (tree_of nodes) ids)))) same)
    ∙ not_two v (map (tree_of nodes) ids) (λ e. other (sym (length-map ids (tree_of nodes)) ∙ e))
    )

-- ---- by two numbers

-- by their product, where that is small
by_product : (w : ℕ) (x : Tree) (m n both : ℕ) → both ≡ m * n → both < 2 ^ w
    → made kind.Udiv w (x ∷ constant w both ∷ []) ≡ by_both w x m n
by_product w x m n both same small =
    let less : nat_lt (m * n) (2 ^ w) ≡ true = lt-ltb (m * n) (2 ^ w) (omega arith) in
    ap (λ k. made kind.Udiv w (x ∷ constant w k ∷ [])) same
    ∙ ap (λ b. if b then made kind.Udiv w (x ∷ constant w (m * n) ∷ []) else Done (constant w 0)) (sym less)

-- 0, where that isn't
pub by_great : (w : ℕ) (x : Tree) (m n : ℕ) → 2 ^ w ≤ m * n → by_both w x m n ≡ Done (constant w 0)
by_great w x m n great =
    ap (λ b. if b then made kind.Udiv w (x ∷ constant w (m * n) ∷ []) else Done (constant w 0))
    (le-ltb (m * n) (2 ^ w) great)

-- the quotient of the trees at two places, by a product that stands there
pub product_there : (old new : List Node) → GoesOn old new → (w : ℕ) (x by : ExprId) (m n both : ℕ)
    → IsTreeOfAt old w x
    → tree_of new by ≡ constant w both
    → both ≡ m * n
    → both < 2 ^ w
    → made kind.Udiv w (tree_of new x ∷ tree_of new by ∷ []) ≡ by_both w (tree_of old x) m n
product_there old new grows w x by m n both h number same small =
    ap (λ tree. made kind.Udiv w (tree ∷ tree_of new by ∷ [])) (same_tree_goes_on old new grows x h.0)
    ∙ ap (λ tree. made kind.Udiv w (tree_of old x ∷ tree ∷ [])) number
    ∙ by_product w (tree_of old x) m n both same small

-- a number that its lowest bits aren't is too great
pub greater : (w both low : ℕ) → low ≡ both % 2 ^ w → (low ≡ both → ⊥) → 2 ^ w ≤ both
greater w both low is other =
    elim (cases_lt both (2 ^ w)) [
      | inl less ↦ absurd (other (is ∙ mod-eq_of_lt less))
      | inr great ↦ great
    ]

-- ---- by the numbers that two trees are

module _ (w : ℕ) (left right : Tree) where
  -- by one that is no number
  pub by_no_number : number_of right ≡ None → made kind.Udiv w (left ∷ right ∷ []) ≡ tree_quotient w left right
  unfolding tree_quotient
  by_no_number none = sym (ap (quotient_by w left right (number_of left)) none)

  module _ (n : ℕ) (number : number_of right ≡ Some n) where
    module _ (m : ℕ) (over : number_of left ≡ Some m) where
      -- whether the divisor is 0
      by_test : (b : Bool) → (n == 0) ≡ b
          → tree_quotient w left right ≡ (if b then made kind.Udiv w (left ∷ right ∷ []) else Done (constant w (m / n)))
      unfolding tree_quotient
      by_test b is =
          ap₂ (quotient_by w left right) over number
          ∙ ap (λ b. if b then made kind.Udiv w (left ∷ right ∷ []) else Done (constant w (m / n))) is

      -- the quotient of two numbers
      pub of_numbers : 0 < n → tree_quotient w left right ≡ Done (constant w (m / n))
      of_numbers some = by_test false (ne_eqb n 0 (λ none. omega arith))

      -- by 0 it is an atom of its own
      pub by_zero : n ≡ 0 → made kind.Udiv w (left ∷ right ∷ []) ≡ tree_quotient w left right
      by_zero none = sym (by_test true (eq-eqb n 0 none))

    module _ (other : number_of left ≡ None) where
      -- whether it is 1
      once_test : (b : Bool) → (n == 1) ≡ b
          → tree_quotient w left right ≡ (if b then Done left else atom_quotient w left right n (alone left))
      unfolding tree_quotient
      once_test b is =
          ap₂ (quotient_by w left right) other number
          ∙ ap (λ b. if b then Done left else atom_quotient w left right n (alone left)) is

      -- by 1 it is what is divided
      pub by_one : n ≡ 1 → tree_quotient w left right ≡ Done left
      by_one one = once_test true (eq-eqb n 1 one)

      -- by another number it may be one quotient
      pub by_many : (n ≡ 1 → ⊥) → atom_quotient w left right n (alone left) ≡ tree_quotient w left right
      by_many many = sym (once_test false (ne_eqb n 1 many))
