-- Lists from the last item to the first.
use Rattle.std.proofs.Common.{◌≡◌, ℕ, ◌+◌, ◌-◌, List, [], ◌∷◌, ◌++◌, length, take, reverse, get_or}
use Rattle.std.proofs.Common.{None, Some, slice_get, refl, sym, ap, ◌∙◌, arith}
use Rattle.std.proofs.lemmas.Grind.{reverse_onto}
use Rattle.std.proofs.lemmas.List.{map_push, take_more, take_all}
use Rattle.std.proofs.lemmas.Option.{slice_get_within, slice_get-get_or}
use Rattle.scev_base.specs.declared.ids.ExprId.{ExprId}
use Rattle.scev_arena.specs.declared.node.Node.{Node}
use Rattle.scev_arena.specs.Meaning.{tree_of}
use Rattle.scev_sums.specs.Answers.{AreTreesOfAt, trees_at}
use Rattle.scev_sums.proofs.Held.{trees_and_last}
use Rattle.scev_minima.specs.Sequences.{reversed}

module _ {A : Type 0} where
  -- a list that is turned around
  pub turned : (xs : List A) → reversed xs ≡ reverse xs
  turned [] = refl
  turned (x ∷ xs) = ap (λ l. l ++ x ∷ []) (turned xs) ∙ sym (reverse_onto xs x [])

  -- one item more at the end is one more before all
  pub one_before : (xs : List A) (x : A) → reversed (xs ++ x ∷ []) ≡ x ∷ reversed xs
  one_before [] x = refl
  one_before (y ∷ xs) x = ap (λ l. l ++ y ∷ []) (one_before xs x)

  -- a list with a last item is the one before it, and that item
  pub split_last : (xs : List A) (x : A) → Some x ≡ slice_get xs (length xs - 1)
      → xs ≡ take (length xs - 1) xs ++ x ∷ []
  split_last xs x is =
      let k = length xs - 1 in
      let within = slice_get_within xs k x (sym is) in
      let same : Some x ≡ Some (get_or xs k x) = is ∙ slice_get-get_or xs k x within in
      let here : x ≡ get_or xs k x = cc same in
      sym (take_all (k + 1) xs (omega arith))
      ∙ take_more xs k x within
      ∙ ap (λ y. take k xs ++ y ∷ []) (sym here)

  -- a list with none is empty
  pub none_last : (xs : List A) → None ≡ slice_get xs (length xs - 1) → xs ≡ []
  none_last [] is = refl
  none_last (x ∷ xs) is =
      absurd (let there = slice_get-get_or (x ∷ xs) (length (x ∷ xs) - 1) x (omega arith) in cc (is, there))

-- the trees at places, from the last to the first
module _ (nodes : List Node) where
  -- one more at the end is before all
  pub last_first : (ids : List ExprId) (id : ExprId)
      → reversed (trees_at nodes (ids ++ id ∷ [])) ≡ tree_of nodes id ∷ reversed (trees_at nodes ids)
  last_first ids id =
      ap reversed (map_push (tree_of nodes) ids id) ∙ one_before (trees_at nodes ids) (tree_of nodes id)

  -- the tree of a last place is the first
  pub last_of : (ids : List ExprId) (id : ExprId) → Some id ≡ slice_get ids (length ids - 1)
      → reversed (trees_at nodes ids) ≡ tree_of nodes id ∷ reversed (trees_at nodes (take (length ids - 1) ids))
  last_of ids id is =
      ap (λ l. reversed (trees_at nodes l)) (split_last ids id is) ∙ last_first (take (length ids - 1) ids) id

  -- turned around, they are the trees of the places that are
  pub trees_turned : (ids : List ExprId) → trees_at nodes (reversed ids) ≡ reversed (trees_at nodes ids)
  trees_turned [] = refl
  trees_turned (id ∷ ids) =
      map_push (tree_of nodes) (reversed ids) id ∙ ap (λ l. l ++ tree_of nodes id ∷ []) (trees_turned ids)

  -- they are places of trees too
  pub turned_held : (w : ℕ) (ids : List ExprId) → AreTreesOfAt nodes w ids → AreTreesOfAt nodes w (reversed ids)
  turned_held w [] h = tt
  turned_held w (id ∷ ids) h = trees_and_last nodes w (reversed ids) id (turned_held w ids h.1) h.0
