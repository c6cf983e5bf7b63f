use Rattle.std.proofs.Common.{◌+◌, ◌*◌, drop, map}
use Rattle.scev_tree.specs.Tree.{constant, parts_of}
use Rattle.scev_arena.specs.Meaning.{meanings, terms_at, factors_at, tree_of}
use Rattle.scev_forms.specs.Turns as forms
use Rattle.scev_casts.proofs.Cutting.{IsCutting}
use Rattle.scev_fold.proofs.Turning.{AreTurning, widths_at}
use Rattle.scev_fold.proofs.turns.+turning.Given as goal

-- A tree's terms, factors and parts stand below it, and what is done with them goes to a lower rank or a lower place.
abbrev pub decreases-tree_at_turn : goal.decreases-tree_at_turn
decreases-tree_at_turn l = 8 * l.id.0 + 5

abbrev pub decreases-terms_at_turn : goal.decreases-terms_at_turn
decreases-terms_at_turn l = 8 * l.below + 4

abbrev pub decreases-with_monomial : goal.decreases-with_monomial
decreases-with_monomial l = 8 * l.below + 3

abbrev pub decreases-factors_at_turn : goal.decreases-factors_at_turn
decreases-factors_at_turn l = 8 * l.below + 2

abbrev pub decreases-atom_at_turn : goal.decreases-atom_at_turn
decreases-atom_at_turn l = 8 * l.id.0 + 7

abbrev pub decreases-parts_at_turn : goal.decreases-parts_at_turn
decreases-parts_at_turn l = 8 * l.below + 6

-- What is left to do gives the same as the whole.
abbrev pub invariant-terms_at_turn-loop-term : goal.invariant-terms_at_turn-loop-term
invariant-terms_at_turn-loop-term l =
    let meant = meanings l.fn.arena in
    let count = tree_of l.fn.arena l.count in
    IsCutting (forms.terms_at_turn l.nest l.l.0 count l.w.bits (terms_at meant (drop l.term-index l.terms))) l.w.bits
    (forms.terms_at_turn l.nest l.l.0 count l.w.bits (terms_at meant l.terms) (constant l.w.bits 0))
    l.fn.arena l.arena l.sum

abbrev pub invariant-factors_at_turn-loop-id : goal.invariant-factors_at_turn-loop-id
invariant-factors_at_turn-loop-id l =
    let meant = meanings l.fn.arena in
    let count = tree_of l.fn.arena l.count in
    IsCutting (forms.factors_at_turn l.nest l.l.0 count l.w.bits (factors_at meant (drop l.id-index l.ids))) l.w.bits
    (forms.factors_at_turn l.nest l.l.0 count l.w.bits (factors_at meant l.ids) (tree_of l.fn.arena l.fn.start))
    l.fn.arena l.arena l.product

abbrev pub invariant-parts_at_turn-loop-id : goal.invariant-parts_at_turn-loop-id
invariant-parts_at_turn-loop-id l =
    let count = tree_of l.fn.arena l.count in
    AreTurning l.nest l.l.0 count
    (forms.parts_at_turn l.nest l.l.0 count (parts_of (map (tree_of l.fn.arena) l.parts)))
    (widths_at l.fn.arena l.parts) l.fn.arena l.arena l.found.items (drop l.id-index l.parts)
