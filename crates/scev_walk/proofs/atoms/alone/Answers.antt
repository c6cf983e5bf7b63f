use Rattle.std.proofs.Common.{◌≡◌, get_or, sym, ap, subst, ◌∙◌}
use Rattle.scev_tree.specs.Tree.{polynomial, term, no_terms, width_of}
use Rattle.scev_arena.specs.Meaning.{meanings, tree_of, factors_at, terms_at}
use Rattle.scev_arena.specs.Standing.{IsAtomAt, AreAtoms, AreOverAtoms}
use Rattle.scev_forms.specs.Atoms as forms
use Rattle.scev_walk.proofs.Lists.{no_item, one_item, item_alone}
use Rattle.scev_walk.proofs.Places.{tree_is, tree_over}
use Rattle.scev_walk.proofs.Constants.{many_not_alone, other_not_alone, factors_not_alone}
use Rattle.scev_walk.proofs.atoms.alone.Goals as goal
use Rattle.scev_walk.proofs.atoms.alone.Goals.{After-as_slice, After-t-item, After-as_slice-in-len1}

-- the tree is the polynomial of the terms that are looked at
read : (c : After-as_slice) → tree_of c.args.arena.now c.args.id
    ≡ polynomial c.in-Tree.width.bits (terms_at (meanings c.args.arena.now) c.as_slice.result.now)
read c =
    tree_is c.args.arena.now c.args.id c.node.result.now c.node.ensures.arena c.node.ensures.node c.in-Tree.width
    c.in-Tree.terms c.in-Tree.is
    ∙ ap (λ ts. polynomial c.in-Tree.width.bits (terms_at (meanings c.args.arena.now) ts)) (sym c.as_slice.ensures)

-- there is one term
read_one : (c : After-t-item) → forms.alone (tree_of c.args.arena.now c.args.id)
    ≡ forms.alone (polynomial c.in-Tree.width.bits
    (term (factors_at (meanings c.args.arena.now) c.t-item.result.ids) c.t-item.result.coefficient no_terms))
read_one c =
    ap forms.alone (read (goal.at.After-t-item c).After-as_slice)
    ∙ ap (λ ts. forms.alone (polynomial c.in-Tree.width.bits (terms_at (meanings c.args.arena.now) ts)))
    (one_item c.as_slice.result.now c.t-item.result c.in-len1.len_at_least c.in-len1.len_below c.t-item.is)

-- and its factors are these
read_ids : (c : After-as_slice-in-len1) → forms.alone (tree_of c.args.arena.now c.args.id)
    ≡ forms.alone (polynomial c.in-Tree.width.bits
    (term (factors_at (meanings c.args.arena.now) c.as_slice-in-len1.result.now) c.t-item.result.coefficient no_terms))
read_ids c =
    read_one (goal.at.After-as_slice-in-len1 c).After-t-item
    ∙ ap (λ ids. forms.alone (polynomial c.in-Tree.width.bits
    (term (factors_at (meanings c.args.arena.now) ids) c.t-item.result.coefficient no_terms)))
    (sym c.as_slice-in-len1.ensures)

pub returns-in-len1-as_slice-clause-atom : goal.returns-in-len1-as_slice-clause-atom
returns-in-len1-as_slice-clause-atom c =
    let ids = item_alone c.as_slice-in-len1.result.now (record { 0 = 0 }) c.in-len1-as_slice.len_at_least
    c.in-len1-as_slice.len_below in
    sym (read_ids (goal.at.returns-in-len1-as_slice-clause-atom c).After-as_slice-in-len1
    ∙ ap (λ n. forms.alone (polynomial c.in-Tree.width.bits
    (term (factors_at (meanings c.args.arena.now) c.as_slice-in-len1.result.now) n no_terms))) c.if-t-eq1.true
    ∙ ap (λ l. forms.alone (polynomial c.in-Tree.width.bits
    (term (factors_at (meanings c.args.arena.now) l) 1 no_terms))) ids)

pub returns-in-len1-as_slice-clause-place : goal.returns-in-len1-as_slice-clause-place
returns-in-len1-as_slice-clause-place c =
    let nodes = c.args.arena.now in
    let bits = c.in-Tree.width.bits in
    let over = tree_over nodes c.args.id c.node.result.now c.node.ensures.arena c.node.ensures.node c.in-Tree.width
    c.in-Tree.terms c.in-Tree.is in
    let items =
    one_item c.as_slice.result.now c.t-item.result c.in-len1.len_at_least c.in-len1.len_below c.t-item.is in
    let ids = item_alone c.as_slice-in-len1.result.now (record { 0 = 0 }) c.in-len1-as_slice.len_at_least
    c.in-len1-as_slice.len_below in
    let term_over = subst (AreOverAtoms nodes bits) (sym c.as_slice.ensures ∙ items) over in
    let atoms = subst (AreAtoms nodes bits) (sym c.as_slice-in-len1.ensures ∙ ids) term_over.0 in
    subst (λ tree. IsAtomAt nodes (width_of tree) (get_or c.as_slice-in-len1.result.now 0 (record { 0 = 0 })))
    (sym (read (goal.at.returns-in-len1-as_slice-clause-place c).After-as_slice)) atoms.0

pub returns-in_default-as_slice-clause-atom : goal.returns-in_default-as_slice-clause-atom
returns-in_default-as_slice-clause-atom c =
    sym (read_ids (goal.at.returns-in_default-as_slice-clause-atom c).After-as_slice-in-len1
    ∙ ap (λ l. forms.alone (polynomial c.in-Tree.width.bits
    (term (factors_at (meanings c.args.arena.now) l) c.t-item.result.coefficient no_terms)))
    (no_item c.as_slice-in-len1.result.now c.in_default-as_slice.len_below))

pub returns-in_default-as_slice-2-clause-atom : goal.returns-in_default-as_slice-2-clause-atom
returns-in_default-as_slice-2-clause-atom c =
    sym (read_ids (goal.at.returns-in_default-as_slice-2-clause-atom c).After-as_slice-in-len1
    ∙ factors_not_alone c.in-Tree.width.bits c.t-item.result.coefficient (meanings c.args.arena.now)
    c.as_slice-in-len1.result.now c.in_default-as_slice.len_at_least)

pub returns-in_default-clause-atom : goal.returns-in_default-clause-atom
returns-in_default-clause-atom c =
    sym (ap forms.alone (read (goal.at.returns-in_default-clause-atom c).After-as_slice)
    ∙ ap (λ ts. forms.alone (polynomial c.in-Tree.width.bits (terms_at (meanings c.args.arena.now) ts)))
    (no_item c.as_slice.result.now c.in_default.len_below))

pub returns-in_default-2-clause-atom : goal.returns-in_default-2-clause-atom
returns-in_default-2-clause-atom c =
    sym (read_one (goal.at.returns-in_default-2-clause-atom c).After-t-item
    ∙ other_not_alone c.in-Tree.width.bits c.t-item.result.coefficient
    (factors_at (meanings c.args.arena.now) c.t-item.result.ids) c.if-t-eq1.false)

pub returns-in_default-3-clause-atom : goal.returns-in_default-3-clause-atom
returns-in_default-3-clause-atom c =
    sym (ap forms.alone (read (goal.at.returns-in_default-3-clause-atom c).After-as_slice)
    ∙ many_not_alone c.in-Tree.width.bits (meanings c.args.arena.now) c.as_slice.result.now
    c.in_default.len_at_least)
