use Rattle.std.proofs.Common.{◌≡◌, ◌+◌, ◌*◌, drop, map}
use Rattle.scev_tree.specs.Tree.{parts_of}
use Rattle.scev_arena.specs.Meaning.{meanings, tree_of, factors_at, terms_at}
use Rattle.scev_fold.specs.Hindered.{factors_hindered, parts_hindered, terms_hindered}
use Rattle.scev_fold.proofs.hindered.+search.Given as goal

-- Parts and factors stand below what they are parts and factors of.
abbrev pub decreases-is_hindered_atom : goal.decreases-is_hindered_atom
decreases-is_hindered_atom l = 4 * l.id.0 + 3

abbrev pub decreases-is_hindered : goal.decreases-is_hindered
decreases-is_hindered l = 4 * l.id.0 + 3

abbrev pub decreases-has_hindered_part : goal.decreases-has_hindered_part
decreases-has_hindered_part l = 4 * l.below + 2

abbrev pub decreases-has_hindered_term : goal.decreases-has_hindered_term
decreases-has_hindered_term l = 4 * l.below + 2

abbrev pub decreases-has_hindered_factor : goal.decreases-has_hindered_factor
decreases-has_hindered_factor l = 4 * l.below + 1

-- What is left decides.
abbrev pub invariant-has_hindered_part-loop-id : goal.invariant-has_hindered_part-loop-id
invariant-has_hindered_part-loop-id l =
    parts_hindered l.nest l.l.0 (tree_of l.arena l.count) (parts_of (map (tree_of l.arena) (drop l.id-index l.parts)))
    ≡ parts_hindered l.nest l.l.0 (tree_of l.arena l.count) (parts_of (map (tree_of l.arena) l.parts))

abbrev pub invariant-has_hindered_term-loop-term : goal.invariant-has_hindered_term-loop-term
invariant-has_hindered_term-loop-term l =
    terms_hindered l.nest l.l.0 (tree_of l.arena l.count) (terms_at (meanings l.arena) (drop l.term-index l.terms))
    ≡ terms_hindered l.nest l.l.0 (tree_of l.arena l.count) (terms_at (meanings l.arena) l.terms)

abbrev pub invariant-has_hindered_factor-loop-id : goal.invariant-has_hindered_factor-loop-id
invariant-has_hindered_factor-loop-id l =
    factors_hindered l.nest l.l.0 (tree_of l.arena l.count) (factors_at (meanings l.arena) (drop l.id-index l.ids))
    ≡ factors_hindered l.nest l.l.0 (tree_of l.arena l.count) (factors_at (meanings l.arena) l.ids)
