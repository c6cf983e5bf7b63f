-- Trees at places, each where it stands for the first time.
use Rattle.std.proofs.Common.{◌≡◌, ℕ, ◌+◌, ◌<◌, ◌≤◌, Bool, true, false, ◌||◌, eqb, if◌then◌else◌}
use Rattle.std.proofs.Common.{List, [], ◌∷◌, ◌++◌, length, drop, refl, sym, ap, ◌∙◌, subst, append_assoc}
use Rattle.std.specs.Bool.{Decides}
use Rattle.std.specs.List.{list_any}
use Rattle.std.proofs.lemmas.Bool.Decides.{Decides-eqb, same_from_decides}
use Rattle.std.proofs.lemmas.List.{append-nil, at_drop_more, at_drop_all, map_push}
use Rattle.scev_base.specs.declared.ids.ExprId.{ExprId}
use Rattle.scev_tree.specs.Tree.{Tree}
use Rattle.scev_tree.specs.Order.{tree_code}
use Rattle.scev_tree.proofs.Codes.{one_tree}
use Rattle.scev_tree.proofs.Lower.{told_same, same_itself}
use Rattle.scev_arena.specs.declared.node.Node.{Node}
use Rattle.scev_arena.specs.NodeLaws.{one_id}
use Rattle.scev_arena.specs.Meaning.{tree_of}
use Rattle.scev_arena.specs.Standing.{IsArena}
use Rattle.scev_arena.proofs.WellMade.{well_made}
use Rattle.scev_arena.proofs.OnePlace.{arena_apart, one_tree_place}
use Rattle.scev_forms.specs.Sums.{same_tree}
use Rattle.scev_forms.specs.Minima.{is_among, first_ones}
use Rattle.scev_sums.specs.Answers.{IsTreeOfAt, AreTreesOfAt, trees_at}
use Rattle.scev_sums.proofs.Reading.{id_at}
use Rattle.scev_minima.specs.Sequences.{reversed}
use Rattle.scev_minima.proofs.Backwards.{one_before}

-- ---- trees among others, in either order

-- one of two tests, in either order
swapped : (a b c : Bool) → (if a then true else (if b then true else c)) ≡ (if b then true else (if a then true else c))
swapped true true c = refl
swapped true false c = refl
swapped false b c = refl

-- with one more at the end
among_last : (tree : Tree) (trees : List Tree) (last : Tree)
    → is_among tree (trees ++ last ∷ []) ≡ (if same_tree tree last then true else is_among tree trees)
among_last tree [] last = refl
among_last tree (other ∷ trees) last =
    ap (λ b. if same_tree tree other then true else b) (among_last tree trees last)
    ∙ swapped (same_tree tree other) (same_tree tree last) (is_among tree trees)

-- from the last to the first they are the same
among_reversed : (tree : Tree) (trees : List Tree) → is_among tree (reversed trees) ≡ is_among tree trees
among_reversed tree [] = refl
among_reversed tree (other ∷ trees) =
    among_last tree (reversed trees) other
    ∙ ap (λ b. if same_tree tree other then true else b) (among_reversed tree trees)

-- ---- places

-- a test and another one
either : (a b c : Bool) → a ≡ b → (if a then true else c) ≡ b || c
either true b c e = ap (λ x. x || c) e
either false b c e = ap (λ x. x || c) e

module _ (nodes : List Node) (arena : IsArena nodes) (w : ℕ) (id : ExprId) (h : IsTreeOfAt nodes w id) where
  -- places hold one tree exactly where they are one
  place_decides : (other : ExprId) → IsTreeOfAt nodes w other
      → Decides (same_tree (tree_of nodes id) (tree_of nodes other)) (other.0 ≡ id.0)
  place_decides other k =
      let code = tree_code (tree_of nodes id) in (
        (λ told.
            let one = one_tree (tree_of nodes id) (tree_of nodes other)
            (told_same code (tree_code (tree_of nodes other)) told) in
            sym (one_tree_place nodes (well_made nodes arena) (arena_apart nodes arena) id other h.0 k.0 one)),
        (λ e. subst (λ x. same_tree (tree_of nodes id) (tree_of nodes x) ≡ true) (sym (one_id other id e))
            (same_itself code)),
      )

  -- so both tests are one
  same_place : (other : ExprId) → IsTreeOfAt nodes w other
      → same_tree (tree_of nodes id) (tree_of nodes other) ≡ eqb other.0 id.0
  same_place other k =
      same_from_decides (same_tree (tree_of nodes id) (tree_of nodes other)) (eqb other.0 id.0)
      (place_decides other k) (Decides-eqb other.0 id.0)

  -- among the trees at places
  among_places : (ids : List ExprId) → AreTreesOfAt nodes w ids
      → is_among (tree_of nodes id) (trees_at nodes ids) ≡ list_any (λ x. eqb x.0 id.0) ids
  among_places [] ks = refl
  among_places (x ∷ ids) ks =
      either (same_tree (tree_of nodes id) (tree_of nodes x)) (eqb x.0 id.0)
      (is_among (tree_of nodes id) (trees_at nodes ids)) (same_place x ks.0)
      ∙ ap (λ b. eqb x.0 id.0 || b) (among_places ids ks.1)

  -- so the tree is among those found exactly where its place is
  pub among_told : (ids : List ExprId) → AreTreesOfAt nodes w ids
      → is_among (tree_of nodes id) (reversed (trees_at nodes ids)) ≡ list_any (λ x. eqb x.0 id.0) ids
  among_told ids ks = among_reversed (tree_of nodes id) (trees_at nodes ids) ∙ among_places ids ks

-- ---- one after another

module _ (nodes : List Node) where
  -- those that are found so far, and then those of what is left
  abbrev pub ones_with : List ExprId → List ExprId → List Tree
  ones_with found left =
      trees_at nodes found ++ first_ones (reversed (trees_at nodes found)) (trees_at nodes left)

  module _ (found ids : List ExprId) (at : ℕ) (within : at < length ids) where
    -- the tree that is looked at, those found before it, and those behind it
    abbrev here : Tree
    here = tree_of nodes (id_at ids at)

    abbrev before : List Tree
    before = reversed (trees_at nodes found)

    abbrev rest : List Tree
    rest = trees_at nodes (drop (at + 1) ids)

    -- a new tree is found
    pub ones_more : is_among here before ≡ false
        → ones_with (found ++ id_at ids at ∷ []) (drop (at + 1) ids) ≡ ones_with found (drop at ids)
    ones_more new =
        ap (λ l. l ++ first_ones (reversed l) rest) (map_push (tree_of nodes) found (id_at ids at))
        ∙ ap (λ l. (trees_at nodes found ++ here ∷ []) ++ first_ones l rest) (one_before (trees_at nodes found) here)
        ∙ append_assoc (trees_at nodes found) (here ∷ []) (first_ones (here ∷ before) rest)
        ∙ ap (λ b. trees_at nodes found ++
        (if b then first_ones before rest else here ∷ first_ones (here ∷ before) rest)) (sym new)
        ∙ sym (at_drop_more (ones_with found) ids at (record { 0 = 0 }) within)

    -- one that is among those found isn't
    pub ones_without : is_among here before ≡ true
        → ones_with found (drop (at + 1) ids) ≡ ones_with found (drop at ids)
    ones_without old =
        ap (λ b. trees_at nodes found ++
        (if b then first_ones before rest else here ∷ first_ones (here ∷ before) rest)) (sym old)
        ∙ sym (at_drop_more (ones_with found) ids at (record { 0 = 0 }) within)

  -- all are found
  pub ones_whole : (found ids : List ExprId) (at : ℕ) → length ids ≤ at
      → trees_at nodes found ≡ ones_with found (drop at ids)
  ones_whole found ids at past =
      sym (at_drop_all (ones_with found) ids at past ∙ append-nil (trees_at nodes found))
