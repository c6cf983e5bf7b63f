use Rattle.std.proofs.Common.{◌≡◌, length, sym, ap, ◌∙◌, arith}
use Rattle.std.proofs.lemmas.Bool.{eqb-true, eqb-false}
use Rattle.scev_tree.specs.Tree.{polynomial, term, no_terms}
use Rattle.scev_arena.specs.Meaning.{meanings, tree_of, factors_at, terms_at}
use Rattle.scev_forms.specs.Atoms as forms
use Rattle.scev_walk.proofs.Lists.{no_item, one_item, some_item}
use Rattle.scev_walk.proofs.Places.{tree_is}
use Rattle.scev_walk.proofs.Constants.{many_no_number, factors_no_number}
use Rattle.scev_walk.proofs.atoms.number_of.Goals as goal
use Rattle.scev_walk.proofs.atoms.number_of.Goals.{After-as_slice, After-is_empty}

-- the tree is the polynomial of the terms that are looked at
read : (c : After-as_slice) → forms.number_of (tree_of c.args.arena.now c.args.id)
    ≡ forms.number_of (polynomial c.in-Tree.width.bits (terms_at (meanings c.args.arena.now) c.as_slice.result.now))
read c =
    ap forms.number_of
    (tree_is c.args.arena.now c.args.id c.node.result.now c.node.ensures.arena c.node.ensures.node c.in-Tree.width
    c.in-Tree.terms c.in-Tree.is
    ∙ ap (λ ts. polynomial c.in-Tree.width.bits (terms_at (meanings c.args.arena.now) ts)) (sym c.as_slice.ensures))

-- there is one term
read_one : (c : After-is_empty) → forms.number_of (tree_of c.args.arena.now c.args.id)
    ≡ forms.number_of (polynomial c.in-Tree.width.bits
    (term (factors_at (meanings c.args.arena.now) c.as_slice-then-this-lt2.result.now) c.t-item.result.coefficient
    no_terms))
read_one c =
    read (goal.at.After-is_empty c).After-as_slice
    ∙ ap (λ ts. forms.number_of (polynomial c.in-Tree.width.bits (terms_at (meanings c.args.arena.now) ts)))
    (one_item c.as_slice.result.now c.t-item.result c.in-len1.len_at_least c.in-len1.len_below c.t-item.is)
    ∙ ap (λ ids. forms.number_of (polynomial c.in-Tree.width.bits
    (term (factors_at (meanings c.args.arena.now) ids) c.t-item.result.coefficient no_terms)))
    (sym c.as_slice-then-this-lt2.ensures)

pub returns-in-empty : goal.returns-in-empty
returns-in-empty c =
    sym (read (goal.at.returns-in-empty c).After-as_slice
    ∙ ap (λ ts. forms.number_of (polynomial c.in-Tree.width.bits (terms_at (meanings c.args.arena.now) ts)))
    (no_item c.as_slice.result.now c.in-empty.len_below))

pub returns-in-len1 : goal.returns-in-len1
returns-in-len1 c =
    let none : length c.as_slice-then-this-lt2.result.now ≡ 0 =
    eqb-true (length c.as_slice-then-this-lt2.result.now) 0 (sym c.is_empty.ensures ∙ c.if-is_empty.true) in
    sym (read_one (goal.at.returns-in-len1 c).After-is_empty
    ∙ ap (λ ids. forms.number_of (polynomial c.in-Tree.width.bits
    (term (factors_at (meanings c.args.arena.now) ids) c.t-item.result.coefficient no_terms)))
    (no_item c.as_slice-then-this-lt2.result.now (omega arith)))

pub returns-in_default : goal.returns-in_default
returns-in_default c =
    let some = some_item c.as_slice-then-this-lt2.result.now
    (eqb-false (length c.as_slice-then-this-lt2.result.now) 0 (sym c.is_empty.ensures ∙ c.if-is_empty.false)) in
    sym (read_one (goal.at.returns-in_default c).After-is_empty
    ∙ factors_no_number c.in-Tree.width.bits c.t-item.result.coefficient (meanings c.args.arena.now)
    c.as_slice-then-this-lt2.result.now some)

pub returns-in_default-2 : goal.returns-in_default-2
returns-in_default-2 c =
    sym (read (goal.at.returns-in_default-2 c).After-as_slice
    ∙ many_no_number c.in-Tree.width.bits (meanings c.args.arena.now) c.as_slice.result.now c.in_default.len_at_least)
