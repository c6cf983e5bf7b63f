-- The texts of what stands at the places of an arena.
use Rattle.std.proofs.Common.{◌≡◌, ℕ, suc, ◌<◌, List, [], ◌∷◌, ◌++◌, length, get_or, map, codes}
use Rattle.std.proofs.Common.{refl, sym, ap, subst, ◌∙◌, arith}
use Rattle.scev_base.specs.declared.ids.BlockId.{BlockId}
use Rattle.scev_base.specs.declared.ids.ExprId.{ExprId}
use Rattle.scev_tree.specs.declared.kind.Kind.{Kind}
use Rattle.scev_tree.specs.declared.kind.Kind.TheVariants as kind
use Rattle.scev_tree.specs.Tree.{Tree, Terms, Atom, Parts, polynomial, atom, parts_of, width_of}
use Rattle.scev_tree.specs.Canonical.{HasParts}
use Rattle.poly_terms.specs.declared.term.Term.{Term}
use Rattle.scev_arena.specs.declared.node.Node.{Node}
use Rattle.scev_arena.specs.Meaning.{Meant, tree_of, atom_at, factors_at, terms_at}
use Rattle.scev_arena.proofs.NodesMeasured.{as_many_parts}
use Rattle.ir_model.specs.declared.types.IrType.TheVariants.{Int}
use Rattle.ir_grammar.specs.Printing.{Shown, type_text}
use Rattle.scev_text.specs.Text.{enclosed, constant_text, sum_text, monomial_text, kind_text, cast_text, part_width}
use Rattle.scev_text.specs.Text.{tree_text, terms_texts, factors_texts, atom_text, parts_texts}
use Rattle.scev_text.proofs.Pieces.{enclosed-one}

-- ---- how many parts there are

-- kinds of one part, and those of two or more
abbrev pub IsOfOne : Kind → Type 0
IsOfOne kind.Trunc = Unit {0}
IsOfOne kind.Zext = Unit {0}
IsOfOne kind.Sext = Unit {0}
IsOfOne _ = ⊥

abbrev pub IsOfMany : Kind → Type 0
IsOfMany kind.Trunc = ⊥
IsOfMany kind.Zext = ⊥
IsOfMany kind.Sext = ⊥
IsOfMany (kind.Leaf register home) = ⊥
IsOfMany _ = Unit {0}

module _ (nodes : List Node) (w : ℕ) where
  one_part_at : (k : Kind) (ids : List ExprId) → IsOfOne k → HasParts k w (parts_of (map (tree_of nodes) ids))
      → length ids ≡ 1
  one_part_at kind.Trunc [] of h = absurd h
  one_part_at kind.Trunc (x ∷ []) of h = refl
  one_part_at kind.Trunc (x ∷ y ∷ ids) of h = absurd h
  one_part_at kind.Zext [] of h = absurd h
  one_part_at kind.Zext (x ∷ []) of h = refl
  one_part_at kind.Zext (x ∷ y ∷ ids) of h = absurd h
  one_part_at kind.Sext [] of h = absurd h
  one_part_at kind.Sext (x ∷ []) of h = refl
  one_part_at kind.Sext (x ∷ y ∷ ids) of h = absurd h
  one_part_at kind.Udiv ids of h = absurd of
  one_part_at kind.Smax ids of h = absurd of
  one_part_at kind.Umax ids of h = absurd of
  one_part_at kind.Smin ids of h = absurd of
  one_part_at kind.Umin ids of h = absurd of
  one_part_at kind.Seq ids of h = absurd of
  one_part_at (kind.Rec l) ids of h = absurd of
  one_part_at (kind.Leaf register home) ids of h = absurd of

  many_parts_at : (k : Kind) (ids : List ExprId) → IsOfMany k → HasParts k w (parts_of (map (tree_of nodes) ids))
      → 1 < length ids
  many_parts_at kind.Trunc ids of h = absurd of
  many_parts_at kind.Zext ids of h = absurd of
  many_parts_at kind.Sext ids of h = absurd of
  many_parts_at kind.Udiv ids of h = omega (arith, h.0, as_many_parts nodes ids)
  many_parts_at kind.Smax ids of h = omega (arith, h.0, as_many_parts nodes ids)
  many_parts_at kind.Umax ids of h = omega (arith, h.0, as_many_parts nodes ids)
  many_parts_at kind.Smin ids of h = omega (arith, h.0, as_many_parts nodes ids)
  many_parts_at kind.Umin ids of h = omega (arith, h.0, as_many_parts nodes ids)
  many_parts_at kind.Seq ids of h = omega (arith, h.0, as_many_parts nodes ids)
  many_parts_at (kind.Rec l) ids of h = omega (arith, h.0, as_many_parts nodes ids)
  many_parts_at (kind.Leaf register home) ids of h = absurd of

  pub one_part : (k known : Kind) (ids : List ExprId) → k ≡ known → IsOfOne known
      → HasParts k w (parts_of (map (tree_of nodes) ids))
      → length ids ≡ 1
  one_part k known ids is of h =
      one_part_at known ids of (subst (λ (k : Kind). HasParts k w (parts_of (map (tree_of nodes) ids))) is h)

  pub many_parts : (k known : Kind) (ids : List ExprId) → k ≡ known → IsOfMany known
      → HasParts k w (parts_of (map (tree_of nodes) ids))
      → 1 < length ids
  many_parts k known ids is of h =
      many_parts_at known ids of (subst (λ (k : Kind). HasParts k w (parts_of (map (tree_of nodes) ids))) is h)

module _ (shown : Shown) (headers : List BlockId) where
  -- ---- what something is made of tells its text

  pub tree_told : (tree : Tree) (w : ℕ) (terms : Terms) → tree ≡ polynomial w terms
      → sum_text w (terms_texts shown headers w terms) ≡ tree_text shown headers tree
  unfolding tree_text
  tree_told tree w terms e = ap (tree_text shown headers) (sym e)

  pub atom_told : (a : Atom) (k known : Kind) (w : ℕ) (parts : Parts) → a ≡ atom k w parts → k ≡ known
      → kind_text shown headers known w (part_width parts) (parts_texts shown headers parts)
      ≡ atom_text shown headers a
  unfolding atom_text
  atom_told a k known w parts e is =
      ap (λ (k : Kind). atom_text shown headers (atom k w parts)) (sym is) ∙ ap (atom_text shown headers) (sym e)

  -- ---- parts

  module _ (nodes : List Node) where
    pub parts_first : (id : ExprId) (ids all : List ExprId) → all ≡ id ∷ ids
        → parts_texts shown headers (parts_of (map (tree_of nodes) all))
        ≡ tree_text shown headers (tree_of nodes id) ∷ parts_texts shown headers (parts_of (map (tree_of nodes) ids))
    unfolding parts_texts
    parts_first id ids all e =
        ap (λ (xs : List ExprId). parts_texts shown headers (parts_of (map (tree_of nodes) xs))) e

    pub parts_many : (ids : List ExprId)
        → length (parts_texts shown headers (parts_of (map (tree_of nodes) ids))) ≡ length ids
    unfolding parts_texts
    parts_many [] = refl
    parts_many (id ∷ ids) = ap suc (parts_many ids)

    -- a conversion of the only part
    pub cast_told : (word : List ℕ) (from w : ℕ) (d id : ExprId) (ids : List ExprId) → length ids ≡ 1
        → id ≡ get_or ids 0 d
        → from ≡ width_of (tree_of nodes id)
        → codes "(" ++ (word ++ (type_text (Int from) ++ (32 ∷ (tree_text shown headers (tree_of nodes id)
        ++ (codes " to " ++ (type_text (Int w) ++ codes ")"))))))
        ≡ cast_text word (part_width (parts_of (map (tree_of nodes) ids))) w
        (parts_texts shown headers (parts_of (map (tree_of nodes) ids)))
    unfolding parts_texts
    cast_told word from w d id [] one e f = absurd (omega (arith, one))
    cast_told word from w d id (x ∷ []) one e f =
        ap (λ n. codes "(" ++ (word ++ (type_text (Int n) ++ (32 ∷ (tree_text shown headers (tree_of nodes id)
        ++ (codes " to " ++ (type_text (Int w) ++ codes ")"))))))) f
        ∙ ap (λ (y : ExprId). cast_text word (width_of (tree_of nodes y)) w
        (tree_text shown headers (tree_of nodes y) ∷ []))
        e
    cast_told word from w d id (x ∷ y ∷ ids) one e f = absurd (omega (arith, one))

  module _ (meant : List Meant) where
    -- ---- factors

    pub factors_first : (id : ExprId) (ids all : List ExprId) → all ≡ id ∷ ids
        → factors_texts shown headers (factors_at meant all)
        ≡ atom_text shown headers (atom_at meant id) ∷ factors_texts shown headers (factors_at meant ids)
    unfolding factors_texts
    factors_first id ids all e = ap (λ (xs : List ExprId). factors_texts shown headers (factors_at meant xs)) e

    pub factors_many : (ids : List ExprId) → length (factors_texts shown headers (factors_at meant ids)) ≡ length ids
    unfolding factors_texts
    factors_many [] = refl
    factors_many (id ∷ ids) = ap suc (factors_many ids)

    -- ---- terms

    pub terms_first : (w : ℕ) (t : Term) (ts all : List Term) → all ≡ t ∷ ts
        → terms_texts shown headers w (terms_at meant all)
        ≡ monomial_text w t.coefficient (factors_texts shown headers (factors_at meant t.ids))
        ∷ terms_texts shown headers w (terms_at meant ts)
    unfolding terms_texts
    terms_first w t ts all e = ap (λ (xs : List Term). terms_texts shown headers w (terms_at meant xs)) e

    pub terms_many : (w : ℕ) (ts : List Term) → length (terms_texts shown headers w (terms_at meant ts)) ≡ length ts
    unfolding terms_texts
    terms_many w [] = refl
    terms_many w (t ∷ ts) = ap suc (terms_many w ts)

    -- ---- sums

    pub sum_none : (tree : Tree) (w : ℕ) (ts : List Term) → tree ≡ polynomial w (terms_at meant ts) → length ts ≡ 0
        → constant_text w 0 ≡ tree_text shown headers tree
    unfolding terms_texts
    sum_none tree w [] e none = tree_told tree w (terms_at meant []) e
    sum_none tree w (t ∷ ts) e none = absurd (omega (arith, none))

    pub sum_some : (tree : Tree) (w : ℕ) (t : Term) (others ts : List Term) → tree ≡ polynomial w (terms_at meant ts)
        → ts ≡ t ∷ others
        → enclosed (codes " + ") (monomial_text w t.coefficient (factors_texts shown headers (factors_at meant t.ids))
        ∷ terms_texts shown headers w (terms_at meant others))
        ≡ tree_text shown headers tree
    sum_some tree w t others ts e split =
        ap (sum_text w) (sym (terms_first w t others ts split)) ∙ tree_told tree w (terms_at meant ts) e

    pub sum_one : (tree : Tree) (w : ℕ) (t : Term) (others ts : List Term) → tree ≡ polynomial w (terms_at meant ts)
        → ts ≡ t ∷ others
        → length others ≡ 0
        → monomial_text w t.coefficient (factors_texts shown headers (factors_at meant t.ids))
        ≡ tree_text shown headers tree
    sum_one tree w t others ts e split none =
        sym (enclosed-one (codes " + ") (monomial_text w t.coefficient (factors_texts shown headers
        (factors_at meant t.ids))) (terms_texts shown headers w (terms_at meant others)) (terms_many w others ∙ none))
        ∙ sum_some tree w t others ts e split
