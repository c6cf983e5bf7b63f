-- Two places of an arena that hold one thing are one.
use Rattle.std.proofs.Common.{◌≡◌, ℕ, ◌<◌, inl, inr, List, [], ◌∷◌, ◌++◌, length, map}
use Rattle.std.proofs.Common.{Some, slice_get, refl, sym, ap, ◌∙◌, subst, arith}
use Rattle.scev_base.specs.declared.ids.ExprId.{ExprId}
use Rattle.scev_tree.specs.Tree.{parts_of}
use Rattle.poly_terms.specs.declared.term.Term.{Term}
use Rattle.scev_arena.specs.declared.node.Node.{Node}
use Rattle.scev_arena.specs.declared.node.Node.TheVariants as node
use Rattle.scev_arena.specs.Meaning.{Meant, TreeOf, AtomOf, node_meant, meanings, tree_of, atom_of}
use Rattle.scev_arena.specs.Meaning.{factors_at, terms_at}
use Rattle.scev_arena.specs.Standing.{IsTreeAt, IsAtomAt, AreTrees, AreAtoms, AreOverAtoms}
use Rattle.scev_arena.specs.Standing.{MayStand, IsArena}
use Rattle.scev_arena.specs.NodeLaws.{one_id, one_width, one_term}
use Rattle.scev_arena.proofs.Places.{at_place, place_of_more}
use Rattle.scev_arena.proofs.Inductions.{front_is_arena, last_stands, last_is_new, by_nodes}
use Rattle.scev_arena.proofs.PlacesStay.{one_more, as_many}
use Rattle.scev_arena.proofs.WellMade.{IsWellMade, well_made, tree_held, atom_held}

-- two places that hold one thing are one
pub record AreApart (nodes : List Node) : Type 0 where
  pub apart : (i j : ℕ) (held : Meant)
      → slice_get (meanings nodes) i ≡ Some held
      → slice_get (meanings nodes) j ≡ Some held
      → i ≡ j

module _ (nodes : List Node) (made : IsWellMade nodes) (different : AreApart nodes) where
  -- places of one tree, or of one atom, are one
  pub one_tree_place : (x y : ExprId) → IsTreeAt nodes x → IsTreeAt nodes y → tree_of nodes x ≡ tree_of nodes y
      → x.0 ≡ y.0
  one_tree_place x y hx hy e =
      different.apart x.0 y.0 (TreeOf (tree_of nodes x)) (tree_held nodes made x hx)
      (tree_held nodes made y hy ∙ ap (λ tree. Some (TreeOf tree)) (sym e))

  pub one_atom_place : (v w : ℕ) (x y : ExprId) → IsAtomAt nodes v x → IsAtomAt nodes w y
      → atom_of nodes x ≡ atom_of nodes y
      → x.0 ≡ y.0
  one_atom_place v w x y hx hy e =
      different.apart x.0 y.0 (AtomOf (atom_of nodes x)) (atom_held nodes made v x hx)
      (atom_held nodes made w y hy ∙ ap (λ a. Some (AtomOf a)) (sym e))

  -- places of the same factors are one list
  one_list_of_factors : (w : ℕ) (xs ys : List ExprId) → AreAtoms nodes w xs → AreAtoms nodes w ys
      → factors_at (meanings nodes) xs ≡ factors_at (meanings nodes) ys
      → xs ≡ ys
  one_list_of_factors w [] [] hx hy e = refl
  one_list_of_factors w [] (y ∷ ys) hx hy e = absurd (cc e)
  one_list_of_factors w (x ∷ xs) [] hx hy e = absurd (cc e)
  one_list_of_factors w (x ∷ xs) (y ∷ ys) hx hy e =
      let first : atom_of nodes x ≡ atom_of nodes y = cc e in
      let others : factors_at (meanings nodes) xs ≡ factors_at (meanings nodes) ys = cc e in
      ap (λ id. id ∷ xs) (one_id x y (one_atom_place w w x y hx.0 hy.0 first))
      ∙ ap (λ ids. y ∷ ids) (one_list_of_factors w xs ys hx.1 hy.1 others)

  -- terms of the same monomials and coefficients are one list
  one_list_of_terms : (w : ℕ) (ss ts : List Term) → AreOverAtoms nodes w ss → AreOverAtoms nodes w ts
      → terms_at (meanings nodes) ss ≡ terms_at (meanings nodes) ts
      → ss ≡ ts
  one_list_of_terms w [] [] hs ht e = refl
  one_list_of_terms w [] (t ∷ ts) hs ht e = absurd (cc e)
  one_list_of_terms w (s ∷ ss) [] hs ht e = absurd (cc e)
  one_list_of_terms w (s ∷ ss) (t ∷ ts) hs ht e =
      let monomials : factors_at (meanings nodes) s.ids ≡ factors_at (meanings nodes) t.ids = cc e in
      let coefficients : s.coefficient ≡ t.coefficient = cc e in
      let others : terms_at (meanings nodes) ss ≡ terms_at (meanings nodes) ts = cc e in
      let ids = one_list_of_factors w s.ids t.ids hs.0 ht.0 monomials in
      ap (λ u. u ∷ ss) (one_term s t ids coefficients)
      ∙ ap (λ us. t ∷ us) (one_list_of_terms w ss ts hs.1 ht.1 others)

  -- places of the same parts are one list
  one_list_of_parts : (xs ys : List ExprId) → AreTrees nodes xs → AreTrees nodes ys
      → parts_of (map (tree_of nodes) xs) ≡ parts_of (map (tree_of nodes) ys)
      → xs ≡ ys
  one_list_of_parts [] [] hx hy e = refl
  one_list_of_parts [] (y ∷ ys) hx hy e = absurd (cc e)
  one_list_of_parts (x ∷ xs) [] hx hy e = absurd (cc e)
  one_list_of_parts (x ∷ xs) (y ∷ ys) hx hy e =
      let first : tree_of nodes x ≡ tree_of nodes y = cc e in
      let others : parts_of (map (tree_of nodes) xs) ≡ parts_of (map (tree_of nodes) ys) = cc e in
      ap (λ id. id ∷ xs) (one_id x y (one_tree_place x y hx.0 hy.0 first))
      ∙ ap (λ ids. y ∷ ids) (one_list_of_parts xs ys hx.1 hy.1 others)

  -- nodes that mean one thing are one
  one_node : (m n : Node) → MayStand nodes m → MayStand nodes n
      → node_meant (meanings nodes) m ≡ node_meant (meanings nodes) n
      → m ≡ n
  one_node (node.Tree v ss) (node.Tree w ts) hm hn e =
      let bits : v.bits ≡ w.bits = cc e in
      let terms : terms_at (meanings nodes) ss ≡ terms_at (meanings nodes) ts = cc e in
      ap (λ u. node.Tree u ss) (one_width v w bits)
      ∙ ap (node.Tree w) (one_list_of_terms w.bits ss ts
      (subst (λ b. AreOverAtoms nodes b ss) bits hm.1) hn.1 terms)
  one_node (node.Atom k v xs) (node.Atom l w ys) hm hn e =
      let kinds : k ≡ l = cc e in
      let bits : v.bits ≡ w.bits = cc e in
      let parts : parts_of (map (tree_of nodes) xs) ≡ parts_of (map (tree_of nodes) ys) = cc e in
      ap (λ u. node.Atom u v xs) kinds
      ∙ ap (λ u. node.Atom l u xs) (one_width v w bits)
      ∙ ap (node.Atom l w) (one_list_of_parts xs ys hm.0 hn.0 parts)
  one_node (node.Tree v ss) (node.Atom l w ys) hm hn e = absurd (cc e)
  one_node (node.Atom k v xs) (node.Tree w ts) hm hn e = absurd (cc e)

none_apart : AreApart []
none_apart = record { apart = λ i j held e f. absurd (cc e) }

module _ (before : List Node) (n : Node) (arena : IsArena (before ++ n ∷ [])) (different : AreApart before) where
  made : IsWellMade before
  made = well_made before (front_is_arena before (n ∷ []) arena)

  -- no place before holds what the last node means
  last_differs : (i : ℕ) (held : Meant) → i < length (meanings before)
      → slice_get (meanings before) i ≡ Some held
      → node_meant (meanings before) n ≡ held
      → ⊥
  last_differs i held less e f =
      let many = as_many before in
      let there = at_place before i (omega arith) in
      let m = there.0 in
      let same : Some (node_meant (meanings before) m) ≡ Some (node_meant (meanings before) n) =
      sym (made.holds i m there.1) ∙ e ∙ ap Some (sym f) in
      let meant : node_meant (meanings before) m ≡ node_meant (meanings before) n = cc same in
      let one : m ≡ n =
      one_node before made different m n (made.stands i m there.1) (last_stands before n arena) meant in
      last_is_new before n arena i (there.1 ∙ ap Some one)

  apart_behind : (i j : ℕ) (held : Meant)
      → slice_get (meanings before ++ node_meant (meanings before) n ∷ []) i ≡ Some held
      → slice_get (meanings before ++ node_meant (meanings before) n ∷ []) j ≡ Some held
      → i ≡ j
  apart_behind i j held e f =
      elim (place_of_more (meanings before) (node_meant (meanings before) n) held i e) [
        | inl old ↦ elim (place_of_more (meanings before) (node_meant (meanings before) n) held j f) [
          | inl old_too ↦ different.apart i j held old.1 old_too.1
          | inr last ↦ absurd (last_differs i held old.0 old.1 last.1)
        ]
        | inr last ↦ elim (place_of_more (meanings before) (node_meant (meanings before) n) held j f) [
          | inl old ↦ absurd (last_differs j held old.0 old.1 last.1)
          | inr last_too ↦ last.0 ∙ sym last_too.0
        ]
      ]

  more_apart : AreApart (before ++ n ∷ [])
  more_apart = record {
    apart = λ i j held e f.
        apart_behind i j held (sym (ap (λ l. slice_get l i) (one_more before n)) ∙ e)
        (sym (ap (λ l. slice_get l j) (one_more before n)) ∙ f);
  }

-- Two places of an arena that hold one thing are one.
pub arena_apart : (nodes : List Node) → IsArena nodes → AreApart nodes
arena_apart nodes arena = by_nodes AreApart none_apart more_apart nodes arena
