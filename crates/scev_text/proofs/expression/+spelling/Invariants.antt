use Rattle.std.proofs.Common.{◌≡◌, ◌+◌, ◌*◌, ◌++◌, drop, map, codes}
use Rattle.scev_tree.specs.Tree.{parts_of}
use Rattle.scev_arena.specs.Meaning.{meanings, tree_of, factors_at, terms_at}
use Rattle.ir_printer.specs.Shown.{shown}
use Rattle.scev_text.specs.Text.{each_behind, terms_texts, factors_texts, parts_texts}
use Rattle.scev_text.proofs.expression.+spelling.Given as goal

-- Parts and factors stand below what they are parts and factors of.
abbrev pub decreases-push_expr : goal.decreases-push_expr
decreases-push_expr l = 8 * l.id.0 + 6

abbrev pub decreases-push_further_monomials : goal.decreases-push_further_monomials
decreases-push_further_monomials l = 8 * l.below + 4

abbrev pub decreases-push_monomial : goal.decreases-push_monomial
decreases-push_monomial l = 8 * l.below + 3

abbrev pub decreases-push_factors : goal.decreases-push_factors
decreases-push_factors l = 8 * l.below + 2

abbrev pub decreases-push_further_factors : goal.decreases-push_further_factors
decreases-push_further_factors l = 8 * l.below + 1

abbrev pub decreases-push_atom : goal.decreases-push_atom
decreases-push_atom l = 8 * l.id.0 + 6

abbrev pub decreases-push_recurrence : goal.decreases-push_recurrence
decreases-push_recurrence l = 8 * l.below + 3

abbrev pub decreases-push_cast : goal.decreases-push_cast
decreases-push_cast l = 8 * l.below + 3

abbrev pub decreases-push_enclosed : goal.decreases-push_enclosed
decreases-push_enclosed l = 8 * l.below + 3

abbrev pub decreases-push_parts : goal.decreases-push_parts
decreases-push_parts l = 8 * l.below + 2

abbrev pub decreases-push_further_parts : goal.decreases-push_further_parts
decreases-push_further_parts l = 8 * l.below + 1

-- What is written, and the texts of those that are left, make up the whole.
abbrev pub invariant-push_further_monomials-loop-term : goal.invariant-push_further_monomials-loop-term
invariant-push_further_monomials-loop-term l =
    l.out.items ++ each_behind (codes " + ") (terms_texts (shown l.names) l.headers l.w.bits
    (terms_at (meanings l.arena) (drop l.term-index l.terms)))
    ≡ l.fn.out.items ++ each_behind (codes " + ") (terms_texts (shown l.names) l.headers l.w.bits
    (terms_at (meanings l.arena) l.terms))

abbrev pub invariant-push_further_factors-loop-id : goal.invariant-push_further_factors-loop-id
invariant-push_further_factors-loop-id l =
    l.out.items ++ each_behind (codes " * ") (factors_texts (shown l.names) l.headers
    (factors_at (meanings l.arena) (drop l.id-index l.ids)))
    ≡ l.fn.out.items ++ each_behind (codes " * ") (factors_texts (shown l.names) l.headers
    (factors_at (meanings l.arena) l.ids))

abbrev pub invariant-push_further_parts-loop-id : goal.invariant-push_further_parts-loop-id
invariant-push_further_parts-loop-id l =
    l.out.items ++ each_behind l.between (parts_texts (shown l.names) l.headers
    (parts_of (map (tree_of l.arena) (drop l.id-index l.parts))))
    ≡ l.fn.out.items ++ each_behind l.between (parts_texts (shown l.names) l.headers
    (parts_of (map (tree_of l.arena) l.parts)))
