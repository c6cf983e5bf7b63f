use Rattle.std.proofs.Common.{◌≡◌, ◌+◌, ◌*◌, drop, map}
use Rattle.scev_tree.specs.Tree.{parts_of}
use Rattle.scev_tree.specs.Order.{factors_code, parts_code, terms_code}
use Rattle.scev_arena.specs.Meaning.{meanings, tree_of, factors_at, terms_at}
use Rattle.scev_walk.specs.Reading.{code_order}
use Rattle.scev_walk.proofs.order.+walk.Given as goal

-- Parts and factors of the left one stand below what they are parts and factors of.
abbrev pub decreases-trees : goal.decreases-trees
decreases-trees l = 8 * l.below + 2

abbrev pub decreases-polynomials : goal.decreases-polynomials
decreases-polynomials l = 8 * l.below + 6

abbrev pub decreases-each_monomial : goal.decreases-each_monomial
decreases-each_monomial l = 8 * l.below + 5

abbrev pub decreases-monomials : goal.decreases-monomials
decreases-monomials l = 8 * l.below + 4

abbrev pub decreases-each_factor : goal.decreases-each_factor
decreases-each_factor l = 8 * l.below + 3

abbrev pub decreases-atoms : goal.decreases-atoms
decreases-atoms l = 8 * l.below + 2

abbrev pub decreases-compare_parts : goal.decreases-compare_parts
decreases-compare_parts l = 8 * l.below + 7

abbrev pub decreases-each_part : goal.decreases-each_part
decreases-each_part l = 8 * l.below + 6

-- Those that are left decide.
abbrev pub invariant-each_monomial-loop-i : goal.invariant-each_monomial-loop-i
invariant-each_monomial-loop-i l =
    code_order (terms_code (terms_at (meanings l.arena) (drop l.i l.left)))
    (terms_code (terms_at (meanings l.arena) (drop l.i l.right)))
    ≡ code_order (terms_code (terms_at (meanings l.arena) l.left)) (terms_code (terms_at (meanings l.arena) l.right))

abbrev pub invariant-each_factor-loop-i : goal.invariant-each_factor-loop-i
invariant-each_factor-loop-i l =
    code_order (factors_code (factors_at (meanings l.arena) (drop l.i l.left)))
    (factors_code (factors_at (meanings l.arena) (drop l.i l.right)))
    ≡ code_order (factors_code (factors_at (meanings l.arena) l.left))
    (factors_code (factors_at (meanings l.arena) l.right))

abbrev pub invariant-each_part-loop-i : goal.invariant-each_part-loop-i
invariant-each_part-loop-i l =
    code_order (parts_code (parts_of (map (tree_of l.arena) (drop l.i l.left))))
    (parts_code (parts_of (map (tree_of l.arena) (drop l.i l.right))))
    ≡ code_order (parts_code (parts_of (map (tree_of l.arena) l.left)))
    (parts_code (parts_of (map (tree_of l.arena) l.right)))
