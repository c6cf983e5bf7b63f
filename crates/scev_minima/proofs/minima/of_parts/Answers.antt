use Rattle.std.proofs.Common.{◌≡◌, ◌≤◌, List, [], ◌∷◌, length, refl, sym, subst, arith}
use Rattle.scev_base.specs.declared.ids.ExprId.{ExprId}
use Rattle.scev_tree.specs.Tree.{parts_of}
use Rattle.scev_tree.specs.Canonical.{HasParts}
use Rattle.scev_arena.specs.Standing.{AreTrees}
use Rattle.scev_forms.proofs.Flat.{has_many}
use Rattle.scev_sums.specs.Answers.{trees_at}
use Rattle.scev_sums.proofs.Held.{are_trees, have_width, as_many_parts}
use Rattle.scev_minima.proofs.Flattening.{takes_many}
use Rattle.scev_minima.proofs.minima.of_parts.Goals as goal

-- there is one, and not one alone
two_or_more : (ids : List ExprId) → (ids ≡ [] → ⊥) → (length ids ≡ 1 → ⊥) → 2 ≤ length ids
two_or_more [] some other = absurd (some refl)
two_or_more (id ∷ []) some other = absurd (other refl)
two_or_more (id ∷ next ∷ ids) some other = omega arith

pub made-requires-clause-parts : goal.made-requires-clause-parts
made-requires-clause-parts c =
    let nodes = c.args.arena.now in
    subst (AreTrees nodes) (sym c.from_vec.ensures) (are_trees nodes c.args.w.bits c.args.parts.items c.requires.trees)

pub made-requires-clause-kind : goal.made-requires-clause-kind
made-requires-clause-kind c =
    let nodes = c.args.arena.now in
    let w = c.args.w.bits in
    let ids = c.args.parts.items in
    let many = two_or_more ids c.requires.some
    (λ one. c.if-len-eq1.false (omega (arith, c.len.ensures, c.args.parts.ok.0, one))) in
    subst (λ l. HasParts c.args.kind w (parts_of (trees_at nodes l))) (sym c.from_vec.ensures)
    (has_many c.args.kind w (parts_of (trees_at nodes ids)) (takes_many c.args.kind c.requires.kind)
    (subst (λ n. 2 ≤ n) (sym (as_many_parts nodes ids)) many, have_width nodes w ids c.requires.trees))
