use Rattle.std.proofs.Common.{◌≡◌, ◌<◌, ◌++◌, refl, sym, ap, subst, ◌∙◌, arith}
use Rattle.scev_tree.specs.declared.kind.Kind.TheVariants as kind
use Rattle.scev_tree.specs.Tree.{width_of}
use Rattle.scev_arena.specs.Meaning.{tree_of}
use Rattle.scev_forms.specs.Minima.{of_parts, sequence_parts, tree_sequence}
use Rattle.scev_sums.specs.Answers.{IsAt, AreTreesOfAt, trees_at, Tells}
use Rattle.scev_sums.proofs.Placing.{both_hold}
use Rattle.scev_sums.proofs.Telling.{told_same}
use Rattle.scev_sums.proofs.Making.{canonical_at}
use Rattle.scev_minima.proofs.SequenceParts.{some_place, all_parts}
use Rattle.scev_minima.proofs.Valued.{sequence_told}
use Rattle.scev_minima.proofs.sequences.make_umin_seq.Goals as goal

pub first_ones-requires : goal.first_ones-requires
first_ones-requires c =
    let nodes = c.args.arena.now in
    let w = c.width-w.result.bits in
    let xs = c.in_ok-parts.parts.items in
    let ys = c.in_ok-flattened.field-0.items in
    let whole = c.deref-2.ensures.value ∙ c.in_ok-extend_from_slice.ensures.items
    ∙ ap (λ l. xs ++ l) c.deref.ensures.value in
    subst (AreTreesOfAt nodes w) (sym whole)
    (both_hold nodes w xs ys c.in_ok-parts.ensures.trees c.in_ok-flattened.ensures.trees)

pub of_parts-requires-clause-some : goal.of_parts-requires-clause-some
of_parts-requires-clause-some c =
    let nodes = c.args.arena.now in
    let new = c.neighbours_joined.new.arena in
    let w = c.width-w.result.bits in
    let first = tree_of nodes c.args.first in
    let second = tree_of nodes c.args.second in
    let xs = c.in_ok-parts.parts.items in
    let ys = c.in_ok-flattened.field-0.items in
    let both = c.deref-2.result.now in
    let ones = c.deref-3.result.now in
    let whole : both ≡ xs ++ ys = c.deref-2.ensures.value ∙ c.in_ok-extend_from_slice.ensures.items
    ∙ ap (λ l. xs ++ l) c.deref.ensures.value in
    let is = canonical_at nodes w c.args.first c.width-w.ensures.arena
    (c.requires.first, sym c.width-w.ensures.width) in
    some_place new w first second c.in_ok-parts-4.parts.items is
    (all_parts nodes new w first second xs ys both ones c.in_ok-parts-3.parts.items c.in_ok-parts-4.parts.items
    c.in_ok-parts.ensures.parts c.in_ok-flattened.ensures.parts whole
    (ap (trees_at nodes) c.deref-3.ensures.value ∙ c.in_ok-parts-2.ensures.1) c.in_ok-parts-3.ensures.parts.1
    c.in_ok-parts-4.ensures.1)

pub returns-clause-tree : goal.returns-clause-tree
unfolding tree_sequence
returns-clause-tree c =
    let nodes = c.args.arena.now in
    let new = c.neighbours_joined.new.arena in
    let last = c.of_parts.new.arena in
    let w = c.width-w.result.bits in
    let first = tree_of nodes c.args.first in
    let second = tree_of nodes c.args.second in
    let xs = c.in_ok-parts.parts.items in
    let ys = c.in_ok-flattened.field-0.items in
    let both = c.deref-2.result.now in
    let ones = c.deref-3.result.now in
    let parts = c.in_ok-parts-4.parts.items in
    let whole : both ≡ xs ++ ys = c.deref-2.ensures.value ∙ c.in_ok-extend_from_slice.ensures.items
    ∙ ap (λ l. xs ++ l) c.deref.ensures.value in
    let formed : trees_at new parts ≡ sequence_parts w first second =
    all_parts nodes new w first second xs ys both ones c.in_ok-parts-3.parts.items parts c.in_ok-parts.ensures.parts
    c.in_ok-flattened.ensures.parts whole
    (ap (trees_at nodes) c.deref-3.ensures.value ∙ c.in_ok-parts-2.ensures.1) c.in_ok-parts-3.ensures.parts.1
    c.in_ok-parts-4.ensures.1 in
    subst (λ w. Tells (IsAt last w) (tree_sequence w first second) c.of_parts.result) c.width-w.ensures.width
    (told_same (IsAt last w) (of_parts kind.Seq w (trees_at new parts)) (tree_sequence w first second) c.of_parts.result
    (ap (of_parts kind.Seq w) formed) c.of_parts.ensures.tree)

pub returns-clause-value : goal.returns-clause-value
returns-clause-value c =
    let nodes = c.args.arena.now in
    sequence_told nodes c.width-w.ensures.arena (width_of (tree_of nodes c.args.first)) c.args.first c.args.second
    (c.requires.first, refl) (c.requires.second, c.requires.width)
    (subst (λ w. 0 < w) c.width-w.ensures.width (omega (arith, c.width-w.result.at_least_one)))
    c.of_parts.new.arena c.of_parts.result (returns-clause-tree c)
