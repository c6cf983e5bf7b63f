-- Quotients and minima have no other kinds of atoms than their operands, but ones that name nothing.
use Rattle.std.proofs.Common.{ℕ, ◌*◌, ◌/◌, ◌^◌, ◌==◌, nat_lt, List, [], ◌∷◌, ◌++◌, Option, Some, None}
use Rattle.std.proofs.lemmas.Bool.{cond_both}
use Rattle.scev_tree.specs.declared.kind.Kind.{Kind}
use Rattle.scev_tree.specs.declared.kind.Kind.TheVariants as kind
use Rattle.scev_tree.specs.Tree.{Tree, Atom, atom, part, no_parts, constant, trees_of}
use Rattle.scev_tree.specs.Order.{rank, tree_code, lower}
use Rattle.scev_forms.specs.Outcome.{Done}
use Rattle.scev_forms.specs.Sums.{same_tree}
use Rattle.scev_forms.specs.Atoms.{number_of, alone, made}
use Rattle.scev_forms.specs.Quotients.{by_both, of_quotient, atom_quotient, quotient_by, tree_quotient}
use Rattle.scev_forms.specs.Minima.{flat_parts, flattened, absorbing, neutral, numbers_joined, with_tree}
use Rattle.scev_forms.specs.Minima.{unless_number, no_numbers, min_parts_of, min_parts, of_parts, tree_minimum}
use Rattle.scev_forms.proofs.Outcomes.{Gives}
use Rattle.tree_names.specs.Names.{HasOnly}
use Rattle.tree_names.proofs.Only.{HoldsNameless, AllHaveOnly, AloneHasOnly, both_have_only, constant_only}
use Rattle.tree_names.proofs.Only.{trees_of_only, made_only, alone_only}

module _ (K : Kind → Type 0) (nameless : (k : Kind) → HoldsNameless K k) where
  -- ---- quotients

  -- of two trees that have K only
  udiv_only : (w : ℕ) (left right : Tree)
      → HasOnly K left
      → HasOnly K right
      → Gives (HasOnly K) (made kind.Udiv w (left ∷ right ∷ []))
  udiv_only w left right h h' = made_only K kind.Udiv w (left ∷ right ∷ []) (nameless kind.Udiv) (h, (h', tt))

  by_both_only : (w : ℕ) (x : Tree) (m n : ℕ) → HasOnly K x → Gives (HasOnly K) (by_both w x m n)
  by_both_only w x m n h =
      cond_both (nat_lt (m * n) (2 ^ w)) (made kind.Udiv w (x ∷ constant w (m * n) ∷ [])) (Done (constant w 0))
      (Gives (HasOnly K))
      (λ _. udiv_only w x (constant w (m * n)) h (constant_only K w (m * n)))
      (λ _. constant_only K w 0)

  of_quotient_only : (w : ℕ) (left right : Tree) (n : ℕ) (x : Tree) (o : Option ℕ)
      → HasOnly K left
      → HasOnly K right
      → HasOnly K x
      → Gives (HasOnly K) (of_quotient w left right n x o)
  of_quotient_only w left right n x (Some m) l r h = by_both_only w x m n h
  of_quotient_only w left right n x None l r h = udiv_only w left right l r

  atom_quotient_only : (w : ℕ) (left right : Tree) (n : ℕ) (o : Option Atom)
      → HasOnly K left
      → HasOnly K right
      → AloneHasOnly K o
      → Gives (HasOnly K) (atom_quotient w left right n o)
  atom_quotient_only w left right n (Some (atom kind.Udiv v (part x (part by no_parts)))) l r h =
      of_quotient_only w left right n x (number_of by) l r h.1.0
  atom_quotient_only w left right n _ l r h = udiv_only w left right l r

  quotient_by_only : (w : ℕ) (left right : Tree) (o p : Option ℕ)
      → HasOnly K left
      → HasOnly K right
      → Gives (HasOnly K) (quotient_by w left right o p)
  quotient_by_only w left right (Some m) None l r = udiv_only w left right l r
  quotient_by_only w left right None None l r = udiv_only w left right l r
  quotient_by_only w left right (Some m) (Some n) l r =
      cond_both (n == 0) (made kind.Udiv w (left ∷ right ∷ [])) (Done (constant w (m / n))) (Gives (HasOnly K))
      (λ _. udiv_only w left right l r)
      (λ _. constant_only K w (m / n))
  quotient_by_only w left right None (Some n) l r =
      cond_both (n == 1) (Done left) (atom_quotient w left right n (alone left)) (Gives (HasOnly K))
      (λ _. l)
      (λ _. atom_quotient_only w left right n (alone left) l r (alone_only K left l))

  pub quotient_only : (w : ℕ) (left right : Tree)
      → HasOnly K left
      → HasOnly K right
      → Gives (HasOnly K) (tree_quotient w left right)
  unfolding tree_quotient
  quotient_only w left right l r = quotient_by_only w left right (number_of left) (number_of right) l r

-- ---- minima and maxima

module _ (K : Kind → Type 0) where
  flat_parts_only : (k : Kind) (tree : Tree) (o : Option Atom)
      → HasOnly K tree
      → AloneHasOnly K o
      → AllHaveOnly K (flat_parts k tree o)
  flat_parts_only k tree None h hs = (h, tt)
  flat_parts_only k tree (Some (atom inner v parts)) h hs =
      cond_both (rank inner == rank k) (trees_of parts) (tree ∷ []) (AllHaveOnly K)
      (λ _. trees_of_only K parts hs.1)
      (λ _. (h, tt))

  flattened_only : (k : Kind) (tree : Tree) → HasOnly K tree → AllHaveOnly K (flattened k tree)
  flattened_only k tree h = flat_parts_only k tree (alone tree) h (alone_only K tree h)

  with_tree_only : (tree : Tree) (trees : List Tree)
      → HasOnly K tree
      → AllHaveOnly K trees
      → AllHaveOnly K (with_tree tree trees)
  with_tree_only tree [] h hs = (h, tt)
  with_tree_only tree (other ∷ trees) h hs =
      cond_both (same_tree tree other) (other ∷ trees) _ (AllHaveOnly K)
      (λ _. hs)
      (λ _. cond_both (lower (tree_code other) (tree_code tree)) (other ∷ with_tree tree trees)
      (tree ∷ other ∷ trees) (AllHaveOnly K)
      (λ _. (hs.0, with_tree_only tree trees h hs.1))
      (λ _. (h, hs)))

  unless_number_only : (o : Option ℕ) (tree : Tree) (trees : List Tree)
      → HasOnly K tree
      → AllHaveOnly K trees
      → AllHaveOnly K (unless_number o tree trees)
  unless_number_only (Some n) tree trees h hs = hs
  unless_number_only None tree trees h hs = with_tree_only tree trees h hs

  no_numbers_only : (trees : List Tree) → AllHaveOnly K trees → AllHaveOnly K (no_numbers trees)
  no_numbers_only [] h = tt
  no_numbers_only (tree ∷ trees) h =
      unless_number_only (number_of tree) tree (no_numbers trees) h.0 (no_numbers_only trees h.1)

  min_parts_of_only : (k : Kind) (w : ℕ) (o : Option ℕ) (trees : List Tree)
      → AllHaveOnly K trees
      → AllHaveOnly K (min_parts_of k w o trees)
  min_parts_of_only k w None trees h = h
  min_parts_of_only k w (Some n) [] h = (constant_only K w n, tt)
  min_parts_of_only k w (Some n) (tree ∷ trees) h =
      cond_both (n == absorbing k w) (constant w n ∷ []) _ (AllHaveOnly K)
      (λ _. (constant_only K w n, tt))
      (λ _. cond_both (n == neutral k w) (tree ∷ trees) (with_tree (constant w n) (tree ∷ trees)) (AllHaveOnly K)
      (λ _. h)
      (λ _. with_tree_only (constant w n) (tree ∷ trees) (constant_only K w n) h))

  of_parts_only : (k : Kind) (w : ℕ) (trees : List Tree)
      → K k
      → AllHaveOnly K trees
      → Gives (HasOnly K) (of_parts k w trees)
  of_parts_only k w [] is h = made_only K k w [] is h
  of_parts_only k w (only ∷ []) is h = h.0
  of_parts_only k w (first ∷ second ∷ trees) is h = made_only K k w (first ∷ second ∷ trees) is h

  pub minimum_only : (k : Kind) (w : ℕ) (left right : Tree)
      → K k
      → HasOnly K left
      → HasOnly K right
      → Gives (HasOnly K) (tree_minimum k w left right)
  unfolding tree_minimum
  minimum_only k w left right is l r =
      let parts = flattened k left ++ flattened k right in
      let all = both_have_only K (flattened k left) (flattened k right) (flattened_only k left l)
      (flattened_only k right r) in
      of_parts_only k w (min_parts k w left right) is
      (min_parts_of_only k w (numbers_joined k w parts) (no_numbers parts) (no_numbers_only parts all))
