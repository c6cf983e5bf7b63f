use Rattle.std.proofs.Common.{◌≡◌, ◌⊎◌, ◌++◌, length, inl, inr, sym, ap, ◌∙◌, subst}
use Rattle.scev_arena.specs.Meaning.{meanings, factors_at}
use Rattle.scev_arena.specs.Standing.{AreAtoms}
use Rattle.scev_polys.proofs.Joinings.{left_turn, right_turn, joining_ends, atoms_at_end}
use Rattle.scev_polys.proofs.monomial.joined.Goals as goal
use Rattle.scev_polys.proofs.monomial.joined.Goals.{in_default, in_default-2, In_ok-extend_from_slice-2}

pub precedes-requires-clause-left : goal.precedes-requires-clause-left
precedes-requires-clause-left c =
    let w = c.requires.atoms.0 in
    let left = (c.loop-x.invariant.atoms w c.requires.atoms.1 c.requires.atoms.2).2 in
    (w, (subst (AreAtoms c.args.arena.now w) c.in-Some-Some.ensures'.cases.0 left).0)

pub precedes-requires-clause-right : goal.precedes-requires-clause-right
precedes-requires-clause-right c =
    let w = c.requires.atoms.0 in
    let left = (c.loop-x.invariant.atoms w c.requires.atoms.1 c.requires.atoms.2).1 in
    (w, (subst (AreAtoms c.args.arena.now w) c.in-Some-Some.ensures.cases.0 left).0)

pub loop-x-preserved-in_ok-push : goal.loop-x-preserved-in_ok-push
loop-x-preserved-in_ok-push c =
    let two = c.in-Some-Some in
    right_turn c.args.arena.now c.args.left.now c.args.right.now c.loop-x.ids.items c.loop-x.lefts.now c.loop-x.rights.now
    two.xs.now two.ys.now c.push.new.self.items two.x.now two.y.now two.ensures.cases.0 two.ensures'.cases.0
    c.loop-x.invariant c.if-precedes.ensures c.in_ok-push.ensures.ok

pub loop-x-preserved : goal.loop-x-preserved
loop-x-preserved c =
    let two = c.in-Some-Some in
    left_turn c.args.arena.now c.args.left.now c.args.right.now c.loop-x.ids.items c.loop-x.lefts.now c.loop-x.rights.now
    two.xs.now two.ys.now c.push-else-precedes.new.self.items two.x.now two.y.now two.ensures.cases.0
    two.ensures'.cases.0 c.loop-x.invariant c.if-precedes.ensures c.in_ok-push-2.ensures.ok

-- What the result is.
whole : (c : In_ok-extend_from_slice-2) → c.extend_from_slice-2.new.self.items
    ≡ (c.loop-x.ids.items ++ c.loop-x.lefts.now) ++ c.loop-x.rights.now
whole c =
    c.in_ok-extend_from_slice-2.ensures.ok
    ∙ ap (λ l. l ++ c.loop-x.rights.now) c.in_ok-extend_from_slice.ensures.ok

pub returns-clause-product : goal.returns-clause-product
returns-clause-product c =
    let none = elim c.match-split_first.branch as (λ _.
    (length c.loop-x.lefts.now ≡ 0) ⊎ (length c.loop-x.rights.now ≡ 0)) [
      | in_default v ↦ inr v.in_default.ensures'.cases
      | in_default-2 v ↦ inl v.in_default.ensures.cases
    ] in
    ap (factors_at (meanings c.args.arena.now)) (whole c)
    ∙ joining_ends c.args.arena.now c.args.left.now c.args.right.now c.loop-x.ids.items c.loop-x.lefts.now
    c.loop-x.rights.now c.loop-x.invariant none

pub returns-clause-atoms : goal.returns-clause-atoms
returns-clause-atoms c w left right =
    subst (AreAtoms c.args.arena.now w) (sym (whole c)) (
    atoms_at_end c.args.arena.now c.args.left.now c.args.right.now w c.loop-x.ids.items c.loop-x.lefts.now
    c.loop-x.rights.now c.loop-x.invariant left right
    )
