use Rattle.std.proofs.Common.{◌+◌, ◌*◌, drop, map}
use Rattle.scev_tree.specs.Tree.{constant, parts_of}
use Rattle.scev_arena.specs.Meaning.{meanings, terms_at, factors_at, tree_of}
use Rattle.scev_forms.specs.Casts as forms
use Rattle.scev_casts.proofs.Cutting.{IsCutting, AreCut}
use Rattle.scev_casts.proofs.truncations.+cutting.Given as goal

-- A tree's terms, factors and parts stand below it, and what is done with them goes to a lower rank or a lower place.
abbrev pub decreases-truncated : goal.decreases-truncated
decreases-truncated l = 8 * l.id.0 + 5

abbrev pub decreases-truncated_terms : goal.decreases-truncated_terms
decreases-truncated_terms l = 8 * l.below + 4

abbrev pub decreases-with_monomial : goal.decreases-with_monomial
decreases-with_monomial l = 8 * l.below + 3

abbrev pub decreases-truncated_factors : goal.decreases-truncated_factors
decreases-truncated_factors l = 8 * l.below + 2

abbrev pub decreases-truncated_atom : goal.decreases-truncated_atom
decreases-truncated_atom l = 8 * l.id.0 + 7

abbrev pub decreases-of_extended : goal.decreases-of_extended
decreases-of_extended l = 8 * l.id.0 + 6

abbrev pub decreases-truncated_parts : goal.decreases-truncated_parts
decreases-truncated_parts l = 8 * l.below + 6

-- What is left to do gives the same as the whole.
abbrev pub invariant-truncated_terms-loop-term : goal.invariant-truncated_terms-loop-term
invariant-truncated_terms-loop-term l =
    let meant = meanings l.fn.arena in
    IsCutting (forms.truncated_terms l.nest l.w.bits (terms_at meant (drop l.term-index l.terms))) l.w.bits
    (forms.truncated_terms l.nest l.w.bits (terms_at meant l.terms) (constant l.w.bits 0)) l.fn.arena l.arena l.sum

abbrev pub invariant-truncated_factors-loop-id : goal.invariant-truncated_factors-loop-id
invariant-truncated_factors-loop-id l =
    let meant = meanings l.fn.arena in
    IsCutting (forms.truncated_factors l.nest l.w.bits (factors_at meant (drop l.id-index l.ids))) l.w.bits
    (forms.truncated_factors l.nest l.w.bits (factors_at meant l.ids) (tree_of l.fn.arena l.fn.start))
    l.fn.arena l.arena l.product

abbrev pub invariant-truncated_parts-loop-id : goal.invariant-truncated_parts-loop-id
invariant-truncated_parts-loop-id l =
    AreCut l.nest l.w.bits (forms.truncated_parts l.nest l.w.bits (parts_of (map (tree_of l.fn.arena) l.parts)))
    l.fn.arena l.arena l.cut.items (drop l.id-index l.parts)
