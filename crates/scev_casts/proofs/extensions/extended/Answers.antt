use Rattle.std.proofs.Common.{ℕ, ◌<◌, ◌^◌, refl, sym, ap, ◌∙◌, subst}
use Rattle.scev_tree.specs.Tree.{width_of, constant}
use Rattle.scev_arena.specs.Meaning.{tree_of}
use Rattle.scev_forms.specs.Casts.{extended_number}
use Rattle.scev_forms.specs.Outcome.{Done}
use Rattle.scev_sums.specs.Answers.{IsAt}
use Rattle.scev_sums.proofs.Making.{canonical_at}
use Rattle.scev_sums.proofs.Telling.{told_same}
use Rattle.scev_casts.specs.Extensions.{kind_of}
use Rattle.scev_casts.proofs.Extending.{is_same, is_other, same_extended, number_extended, atom_extended, number_below}
use Rattle.scev_casts.proofs.extensions.extended.Goals as goal

pub returns-then-eq-clause-tree : goal.returns-then-eq-clause-tree
returns-then-eq-clause-tree c =
    let w = c.args.w.bits in
    let tree = tree_of c.args.arena.now c.args.id in
    let same = is_same w c.width-from.ensures.width c.eq.ensures c.if-eq.true in
    (tree, same_extended (kind_of c.args.how) w tree same, ((c.requires.tree, same), refl))

pub how_extended-requires-clause-fits : goal.how_extended-requires-clause-fits
how_extended-requires-clause-fits c =
    let old = c.args.arena.now in
    let tree = tree_of old c.args.id in
    subst (λ w. c.in-Some.n < 2 ^ w) (sym c.width-from.ensures.width)
    (number_below tree c.in-Some.n
    (canonical_at old (width_of tree) c.args.id c.width-from.ensures.arena (c.requires.tree, refl)).1
    c.in-Some.ensures)

pub returns-in_ok-constant-in-Some-clause-tree : goal.returns-in_ok-constant-in-Some-clause-tree
returns-in_ok-constant-in-Some-clause-tree c =
    let w = c.args.w.bits in
    let k = kind_of c.args.how in
    let tree = tree_of c.args.arena.now c.args.id in
    let other = is_other w c.width-from.ensures.width c.eq.ensures c.if-eq.false in
    let number = c.how_extended.ensures
    ∙ ap (λ (v : ℕ). extended_number k v w c.in-Some.n) c.width-from.ensures.width in (
      constant w c.how_extended.result,
      number_extended k w tree other c.in-Some.n c.in-Some.ensures ∙ ap (λ (n : ℕ). Done (constant w n)) (sym number),
      c.in_ok-constant-in-Some.ensures.tree,
    )

pub returns-in-None-clause-tree : goal.returns-in-None-clause-tree
returns-in-None-clause-tree c =
    let w = c.args.w.bits in
    told_same (IsAt c.extended_atom.new.arena w) _ _ c.extended_atom.result
    (atom_extended (kind_of c.args.how) w (tree_of c.args.arena.now c.args.id)
    (is_other w c.width-from.ensures.width c.eq.ensures c.if-eq.false) c.in-None.ensures)
    c.extended_atom.ensures.tree
