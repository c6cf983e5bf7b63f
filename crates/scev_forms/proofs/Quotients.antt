-- Quotients are canonical, and keep the value.
use Rattle.std.proofs.Common.{◌≡◌, ℕ, zero, suc, ◌*◌, ◌/◌, ◌^◌, ◌<◌, ◌≤◌, ◌==◌, nat_lt}
use Rattle.std.proofs.Common.{[], ◌∷◌, Option, Some, None, refl, sym, ap, ◌∙◌, arith}
use Rattle.std.proofs.lemmas.Bool.{cond_both, eqb-true, ltb-true, ltb-false}
use Rattle.std.proofs.Math.Nat.{div-eq_of_lt, div-div-eq-div-mul, mul-pos}
use Rattle.scev_tree.specs.declared.kind.Kind.TheVariants as kind
use Rattle.scev_tree.specs.Tree.{Tree, Atom, atom, no_parts, part, constant}
use Rattle.scev_tree.specs.Value.{quotient, tree_value}
use Rattle.scev_forms.specs.Outcome.{Done}
use Rattle.scev_forms.specs.Trees.{IsTreeOf}
use Rattle.scev_forms.specs.Atoms.{number_of, alone, made}
use Rattle.scev_forms.specs.Quotients.{by_both, of_quotient, atom_quotient, quotient_by, tree_quotient}
use Rattle.scev_forms.proofs.Atoms.{done_is_tree, made_is_tree, constant_is_tree, constant_same, number_value}
use Rattle.scev_forms.proofs.Atoms.{number_small, alone_is_canonical, made_value, alone_value}

-- ---- canonical trees

-- an atom of two trees
both_are_tree : (w : ℕ) (left right out : Tree)
    → 0 < w
    → IsTreeOf w left
    → IsTreeOf w right
    → made kind.Udiv w (left ∷ right ∷ []) ≡ Done out
    → IsTreeOf w out
both_are_tree w left right out some l r h =
    made_is_tree kind.Udiv w (left ∷ right ∷ []) out some (refl, (l.0, (r.0, tt))) (l.1, (r.1, tt)) h

-- a quotient by a number, by a number
by_both_is_tree : (w : ℕ) (x : Tree) (m n : ℕ) (out : Tree)
    → 0 < w
    → IsTreeOf w x
    → by_both w x m n ≡ Done out
    → IsTreeOf w out
by_both_is_tree w x m n out some is h =
    cond_both (nat_lt (m * n) (2 ^ w)) (made kind.Udiv w (x ∷ constant w (m * n) ∷ [])) (Done (constant w 0))
    (λ o. o ≡ Done out → IsTreeOf w out)
    (λ _. both_are_tree w x (constant w (m * n)) out some is (constant_is_tree w (m * n)))
    (λ _. done_is_tree w (constant w 0) out (constant_is_tree w 0))
    h

-- a quotient of an atom that a tree is alone
of_atom_is_tree : (w : ℕ) (left right : Tree) (n : ℕ) (o : Option Atom) (out : Tree)
    → 0 < w
    → IsTreeOf w left
    → IsTreeOf w right
    → alone left ≡ o
    → atom_quotient w left right n o ≡ Done out
    → IsTreeOf w out
of_atom_is_tree w left right n (Some (atom kind.Udiv v (part x (part by no_parts)))) out some l r one h =
    elim (number_of by) as (λ m. of_quotient w left right n x m ≡ Done out → IsTreeOf w out) [
      | None ↦ λ same. both_are_tree w left right out some l r same
      | Some m ↦ λ same.
          let a = alone_is_canonical left (atom kind.Udiv v (part x (part by no_parts))) l.1 one in
          by_both_is_tree w x m n out some (a.1.1.0 ∙ l.0, a.2.0) same
    ] h
of_atom_is_tree w left right n _ out some l r one h = both_are_tree w left right out some l r h

-- by the numbers that the two trees are
by_numbers_is_tree : (w : ℕ) (left right : Tree) (m n : Option ℕ) (out : Tree)
    → 0 < w
    → IsTreeOf w left
    → IsTreeOf w right
    → quotient_by w left right m n ≡ Done out
    → IsTreeOf w out
by_numbers_is_tree w left right m None out some l r h = both_are_tree w left right out some l r h
by_numbers_is_tree w left right (Some m) (Some n) out some l r h =
    cond_both (n == 0) (made kind.Udiv w (left ∷ right ∷ [])) (Done (constant w (m / n)))
    (λ o. o ≡ Done out → IsTreeOf w out)
    (λ _. both_are_tree w left right out some l r)
    (λ _. done_is_tree w (constant w (m / n)) out (constant_is_tree w (m / n)))
    h
by_numbers_is_tree w left right None (Some n) out some l r h =
    cond_both (n == 1) (Done left) (atom_quotient w left right n (alone left))
    (λ o. o ≡ Done out → IsTreeOf w out)
    (λ _. done_is_tree w left out l)
    (λ _. of_atom_is_tree w left right n (alone left) out some l r refl)
    h

-- a quotient of canonical trees is one
pub quotient_is_tree : (w : ℕ) (left right out : Tree)
    → 0 < w
    → IsTreeOf w left
    → IsTreeOf w right
    → tree_quotient w left right ≡ Done out
    → IsTreeOf w out
unfolding tree_quotient
quotient_is_tree w left right out some l r h =
    by_numbers_is_tree w left right (number_of left) (number_of right) out some l r h

-- ---- values

-- where a quotient is a number, both sides are, and the divisor isn't 0
divided : (x y : Option ℕ) (n : ℕ)
    → quotient x y ≡ Some n
    → (a : ℕ) × (d : ℕ) × (x ≡ Some a) × (y ≡ Some d) × (0 < d) × (n ≡ a / d)
divided None None n h = absurd cc
divided None (Some zero) n h = absurd cc
divided None (Some (suc d)) n h = absurd cc
divided (Some a) None n h = absurd cc
divided (Some a) (Some zero) n h = absurd cc
divided (Some a) (Some (suc d)) n h = (a, suc d, refl, refl, omega arith, cc)

-- the quotient of two numbers
quotient_of : (a d : ℕ) → 0 < d → quotient (Some a) (Some d) ≡ Some (a / d)
quotient_of a zero some = absurd (omega arith)
quotient_of a (suc d) some = refl

-- a quotient isn't above what is divided
quotient_least : (a d : ℕ) → a / d ≤ a
quotient_least a d = grind arith

module _ (held : ℕ → Option ℕ) (turns : ℕ → ℕ) where
  -- an atom of two trees
  both_value : (w : ℕ) (left right out : Tree) (n : ℕ)
      → IsTreeOf w left
      → IsTreeOf w right
      → made kind.Udiv w (left ∷ right ∷ []) ≡ Done out
      → quotient (tree_value held turns left) (tree_value held turns right) ≡ Some n
      → tree_value held turns out ≡ Some n
  both_value w left right out n l r h q =
      made_value held turns kind.Udiv w (left ∷ right ∷ []) out tt (refl, (l.0, (r.0, tt))) (l.1, (r.1, tt)) h ∙ q

  -- a constant that is done
  done_value : (w m n : ℕ) (out : Tree)
      → m ≡ n
      → n < 2 ^ w
      → Done (constant w m) ≡ Done out
      → tree_value held turns out ≡ Some n
  done_value w m n out same below h =
      let e : out ≡ constant w m = cc in
      ap (tree_value held turns) e ∙ ap (λ k. tree_value held turns (constant w k)) same
      ∙ constant_same held turns w n below

  -- a number by a number, by a number
  by_both_value : (w : ℕ) (x : Tree) (a m d : ℕ) (out : Tree)
      → IsTreeOf w x
      → tree_value held turns x ≡ Some a
      → 0 < m
      → 0 < d
      → by_both w x m d ≡ Done out
      → tree_value held turns out ≡ Some (a / m / d)
  by_both_value w x a m d out is value some more h =
      let fits = number_small held turns w x a is value in
      let both : 0 < m * d = mul-pos some more in
      let one : a / (m * d) ≡ a / m / d = sym (div-div-eq-div-mul a m d) in
      cond_both (nat_lt (m * d) (2 ^ w)) (made kind.Udiv w (x ∷ constant w (m * d) ∷ [])) (Done (constant w 0))
      (λ o. o ≡ Done out → tree_value held turns out ≡ Some (a / m / d))
      (λ small same.
      let number = constant_same held turns w (m * d) (ltb-true (m * d) (2 ^ w) small) in
      both_value w x (constant w (m * d)) out (a / m / d) is (constant_is_tree w (m * d)) same
      (ap (λ y. quotient y (tree_value held turns (constant w (m * d)))) value
      ∙ ap (quotient (Some a)) number ∙ quotient_of a (m * d) both ∙ ap Some one))
      (λ great same.
      let large = ltb-false (m * d) (2 ^ w) great in
      let none : a / (m * d) ≡ 0 = div-eq_of_lt (omega arith) in
      done_value w 0 (a / m / d) out (sym none ∙ one) (omega (arith, fits, quotient_least a (m * d), one)) same)
      h

  -- a quotient of an atom that a tree is alone, by a number
  of_atom_quotient : (w : ℕ) (left right : Tree) (d : ℕ) (o : Option Atom) (out : Tree) (n : ℕ)
      → IsTreeOf w left
      → IsTreeOf w right
      → alone left ≡ o
      → number_of right ≡ Some d
      → atom_quotient w left right d o ≡ Done out
      → quotient (tree_value held turns left) (tree_value held turns right) ≡ Some n
      → tree_value held turns out ≡ Some n
  of_atom_quotient w left right d (Some (atom kind.Udiv v (part x (part by no_parts)))) out n l r one number h q =
      elim (number_of by) as (λ o. number_of by ≡ o
      → of_quotient w left right d x o ≡ Done out → tree_value held turns out ≡ Some n) [
        | None ↦ λ _ same. both_value w left right out n l r same q
        | Some m ↦ λ divisor same.
            let parts = part x (part by no_parts) in
            let whole = divided (tree_value held turns left) (tree_value held turns right) n q in
            let value = sym (alone_value held turns left kind.Udiv v parts tt l.1 one) ∙ whole.2 in
            let inner = divided (tree_value held turns x) (tree_value held turns by) whole.0 value in
            let a = alone_is_canonical left (atom kind.Udiv v parts) l.1 one in
            let first : m ≡ inner.1 = let e = number_value held turns by m a.2.1.0 divisor in cc in
            let second : d ≡ whole.1 = let e = number_value held turns right d r.1 number in cc in
            let some : 0 < m = rw first inner.4 in
            let more : 0 < d = rw second whole.4 in
            let same_number : n ≡ inner.0 / m / d = cc in
            by_both_value w x inner.0 m d out (a.1.1.0 ∙ l.0, a.2.0) inner.2 some more same ∙ ap Some (sym same_number)
      ] refl h
  of_atom_quotient w left right d _ out n l r one number h q = both_value w left right out n l r h q

  -- by the numbers that the two trees are
  by_numbers_value : (w : ℕ) (left right : Tree) (x y : Option ℕ) (out : Tree) (n : ℕ)
      → IsTreeOf w left
      → IsTreeOf w right
      → number_of left ≡ x
      → number_of right ≡ y
      → quotient_by w left right x y ≡ Done out
      → quotient (tree_value held turns left) (tree_value held turns right) ≡ Some n
      → tree_value held turns out ≡ Some n
  by_numbers_value w left right x None out n l r first second h q = both_value w left right out n l r h q
  by_numbers_value w left right (Some m) (Some d) out n l r first second h q =
      cond_both (d == 0) (made kind.Udiv w (left ∷ right ∷ [])) (Done (constant w (m / d)))
      (λ o. o ≡ Done out → tree_value held turns out ≡ Some n)
      (λ _ same. both_value w left right out n l r same q)
      (λ _ same.
      let whole = divided (tree_value held turns left) (tree_value held turns right) n q in
      let over = (number_value held turns left m l.1 first).0 in
      let by = (number_value held turns right d r.1 second).0 in
      let fits = number_small held turns w left m l over in
      let number : m / d ≡ n = cc in
      done_value w (m / d) n out number (omega (arith, fits, quotient_least m d, number)) same)
      h
  by_numbers_value w left right None (Some d) out n l r first second h q =
      cond_both (d == 1) (Done left) (atom_quotient w left right d (alone left))
      (λ o. o ≡ Done out → tree_value held turns out ≡ Some n)
      (λ once same.
      let whole = divided (tree_value held turns left) (tree_value held turns right) n q in
      let by = (number_value held turns right d r.1 second).0 in
      let one : d ≡ 1 = eqb-true d 1 once in
      let number : n ≡ whole.0 / 1 = cc in
      let e : out ≡ left = cc in
      ap (tree_value held turns) e ∙ whole.2 ∙ ap Some (sym (number ∙ omega arith)))
      (λ _ same. of_atom_quotient w left right d (alone left) out n l r refl second same q)
      h

  -- a quotient keeps the value
  pub quotient_value : (w : ℕ) (left right out : Tree) (n : ℕ)
      → IsTreeOf w left
      → IsTreeOf w right
      → tree_quotient w left right ≡ Done out
      → quotient (tree_value held turns left) (tree_value held turns right) ≡ Some n
      → tree_value held turns out ≡ Some n
  unfolding tree_quotient
  quotient_value w left right out n l r h q =
      by_numbers_value w left right (number_of left) (number_of right) out n l r refl refl h q
