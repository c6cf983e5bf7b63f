use Rattle.std.proofs.Common.{◌≡◌, ℕ, ◌≤◌, ◌<◌, List, [], ◌∷◌, length, get_or, refl, subst, arith}
use Rattle.std.proofs.lemmas.List.{nil_from_length}
use Rattle.scev_base.specs.declared.ids.ExprId.{ExprId}
use Rattle.scev_tree.specs.Tree.{constant}
use Rattle.scev_arena.specs.declared.node.Node.{Node}
use Rattle.scev_arena.specs.Meaning.{tree_of}
use Rattle.scev_sums.specs.Answers.{IsAt, IsTreeOfAt, AreTreesOfAt}
use Rattle.scev_sums.proofs.Telling.{told_same}
use Rattle.scev_fold.proofs.Counting.{no_parts_counted, number_counted, affine_counted, start_counted}
use Rattle.scev_fold.proofs.counted.counted.Goals as goal

-- the first of the places holds a tree
first_held : (nodes : List Node) (w : ℕ) {ids others : List ExprId} {first : ExprId} → ids ≡ first ∷ others
    → AreTreesOfAt nodes w ids
    → IsTreeOfAt nodes w first
first_held nodes w is h = (subst (AreTreesOfAt nodes w) is h).0

-- fewer than two places, but at least one, are one
one_held : (ids : List ExprId) (other : ExprId) → 1 ≤ length ids → length ids < 2 → ids ≡ get_or ids 0 other ∷ []
one_held [] other some few = absurd (omega arith)
one_held (id ∷ []) other some few = refl
one_held (id ∷ more ∷ ids) other some few = absurd (omega arith)

pub returns-in-None-clause-tree : goal.returns-in-None-clause-tree
returns-in-None-clause-tree c =
    let none = nil_from_length c.args.parts.now c.in-None.ensures.cases in (
      constant c.args.w.bits 0,
      no_parts_counted c.args.nest.now c.args.w.bits (tree_of c.args.arena.now c.args.count) c.args.arena.now
          c.args.parts.now none,
      c.in_ok-constant-in-None.ensures.tree,
    )

pub returns-in-Some-default-clause-tree : goal.returns-in-Some-default-clause-tree
returns-in-Some-default-clause-tree c =
    let w = c.args.w.bits in
    let nodes = c.args.arena.now in
    told_same (IsAt c.counted_parts.new.arena w) _ _ c.counted_parts.result
    (number_counted c.args.nest.now w (tree_of nodes c.args.count) nodes c.in-Some.ensures.cases.0 c.number_of.ensures
    c.in-Some-default.is-0)
    c.counted_parts.ensures.tree

pub returns-in-None-len1-clause-tree : goal.returns-in-None-len1-clause-tree
returns-in-None-len1-clause-tree c =
    let w = c.args.w.bits in
    let nodes = c.args.arena.now in
    told_same (IsAt c.counted_affine.new.arena w) _ _ c.counted_affine.result
    (affine_counted c.args.nest.now w (tree_of nodes c.args.count) nodes c.in-Some.ensures.cases.0 c.number_of.ensures
    c.in-None-len1.is-0 (one_held c.in-Some.both.1.now _ c.in-None-len1.len_at_least c.in-None-len1.len_below))
    c.counted_affine.ensures.tree

pub returns-in-None-default-clause-tree : goal.returns-in-None-default-clause-tree
returns-in-None-default-clause-tree c =
    let nodes = c.args.arena.now in
    let others = c.in-Some.both.1.now in
    let e = c.in-Some.ensures.cases.0 in
    let none : length others ≡ 1 → ⊥ = λ one. grind arith in (
      tree_of nodes c.in-Some.both.0.now,
      start_counted c.args.nest.now c.args.w.bits (tree_of nodes c.args.count) nodes e c.number_of.ensures
          c.in-None-default.is-0 none,
      (first_held nodes c.args.w.bits e c.requires.parts, refl),
    )
