use Rattle.std.proofs.Common.{◌≡◌, ◌+◌, ◌*◌, drop, map}
use Rattle.scev_tree.specs.Tree.{parts_of}
use Rattle.scev_arena.specs.Meaning.{meanings, tree_of, factors_at, terms_at}
use Rattle.scev_walk.specs.Reading.{factor_moves, part_moves, term_moves}
use Rattle.scev_walk.proofs.variance.+walk.Given as goal

-- Parts and factors stand below what they are parts and factors of.
abbrev pub decreases-moves : goal.decreases-moves
decreases-moves l = 4 * l.id.0 + 3

abbrev pub decreases-tree_moves : goal.decreases-tree_moves
decreases-tree_moves l = 4 * l.id.0 + 3

abbrev pub decreases-part_moves : goal.decreases-part_moves
decreases-part_moves l = 4 * l.below + 2

abbrev pub decreases-term_moves : goal.decreases-term_moves
decreases-term_moves l = 4 * l.below + 2

abbrev pub decreases-factor_moves : goal.decreases-factor_moves
decreases-factor_moves l = 4 * l.below + 1

-- What is left decides.
abbrev pub invariant-part_moves-loop-id : goal.invariant-part_moves-loop-id
invariant-part_moves-loop-id l = part_moves l.nest l.l.0 (parts_of (map (tree_of l.arena) (drop l.id-index l.parts)))
    ≡ part_moves l.nest l.l.0 (parts_of (map (tree_of l.arena) l.parts))

abbrev pub invariant-term_moves-loop-t : goal.invariant-term_moves-loop-t
invariant-term_moves-loop-t l = term_moves l.nest l.l.0 (terms_at (meanings l.arena) (drop l.t-index l.terms))
    ≡ term_moves l.nest l.l.0 (terms_at (meanings l.arena) l.terms)

abbrev pub invariant-factor_moves-loop-id : goal.invariant-factor_moves-loop-id
invariant-factor_moves-loop-id l = factor_moves l.nest l.l.0 (factors_at (meanings l.arena) (drop l.id-index l.ids))
    ≡ factor_moves l.nest l.l.0 (factors_at (meanings l.arena) l.ids)
