use Rattle.std.proofs.Common.{◌≡◌, ℕ, ◌+◌, List, [], ◌∷◌, map, get_or, drop, Vec, Global, Ok, Err}
use Rattle.std.proofs.Common.{refl, sym, ap, ◌∙◌, subst, arith}
use Rattle.std.proofs.lemmas.List.{drop_all}
use Rattle.std.proofs.lemmas.Result.{err_from_is_err_and}
use Rattle.scev_base.specs.declared.ids.ExprId.{ExprId}
use Rattle.scev_tree.specs.declared.kind.Kind.TheVariants as kind
use Rattle.scev_tree.specs.Tree.{Tree, polynomial, constant, width_of, parts_of}
use Rattle.scev_tree.specs.Canonical.{HasParts}
use Rattle.scev_arena.specs.declared.node.Node.{Node}
use Rattle.scev_arena.specs.Meaning.{meanings, terms_at, tree_of}
use Rattle.scev_arena.specs.Standing.{AreAtoms, AreTrees}
use Rattle.scev_forms.specs.Sums.{tree_sum}
use Rattle.scev_forms.specs.Turns as forms
use Rattle.scev_walk.specs.Reading.{AreBelow}
use Rattle.scev_walk.proofs.Among.{tree_among, atom_among, term_among}
use Rattle.scev_walk.proofs.Below.{below_among, over_below_among}
use Rattle.scev_sums.specs.Answers.{IsAt, Tells, trees_at}
use Rattle.scev_sums.proofs.Growth.{goes_on_again, tree_goes_on, same_tree_goes_on, wide_goes_on, atoms_go_on}
use Rattle.scev_sums.proofs.Placing.{drop_next}
use Rattle.scev_sums.proofs.Refusals.{led_on, refused}
use Rattle.scev_sums.proofs.Telling.{told_same}
use Rattle.scev_casts.proofs.AtomsCut.{one_width, rec_parts}
use Rattle.scev_casts.proofs.Cutting.{sum_told, product_told}
use Rattle.scev_fold.proofs.KindsCompared.{is_kind, is_other_kind}
use Rattle.scev_fold.proofs.SameParts.{parts_too}
use Rattle.scev_fold.proofs.Turning.{whole_tree, product_turns, terms_turned, monomial_leads, monomial_added}
use Rattle.scev_fold.proofs.Turning.{factors_turned, atom_leads, times_leads, multiplied, parts_turned, widths_turned}
use Rattle.scev_fold.proofs.Turning.{part_leads, part_added, loop_counted, parts_lead}
use Rattle.scev_fold.proofs.turns.+turning.Goals as goal

-- the places that a call gives hold these trees
abbrev HoldAt : List Node → Vec ExprId Global → List Tree → Type 0
HoldAt nodes ids trees = AreTrees nodes ids.items × (trees_at nodes ids.items ≡ trees)

-- the place that is looked at
abbrev id_at : List ExprId → ℕ → ExprId
id_at ids i = get_or ids i (record { 0 = 0 })

-- ---- trees

pub tree_at_turn-returns-clause-tree : goal.tree_at_turn-returns-clause-tree
tree_at_turn-returns-clause-tree t c =
    let nodes = c.args.arena.now in
    let w = c.in_ok-w.w.bits in
    let tree = c.in_ok-w.ensures.tree
    ∙ ap (λ ts. polynomial w (terms_at (meanings nodes) ts)) (sym c.as_slice.ensures) in
    subst (λ v. Tells (IsAt c.terms_at_turn.new.arena v) (forms.tree_at_turn c.args.nest.now c.args.l.0
    (tree_of nodes c.args.count) (tree_of nodes c.args.id)) c.terms_at_turn.result) (sym (ap width_of tree))
    (told_same (IsAt c.terms_at_turn.new.arena w) _ _ c.terms_at_turn.result
    (whole_tree c.args.nest.now c.args.l.0 (tree_of nodes c.args.count) tree)
    c.terms_at_turn.ensures.tree)

-- ---- terms

pub terms_at_turn-with_monomial-requires : goal.terms_at_turn-with_monomial-requires
terms_at_turn-with_monomial-requires t c =
    let ts = c.args.terms.now in
    let i = c.loop-term.term-index in
    let term = c.term-item.result in
    let w = c.args.w.bits in
    let first = c.args.arena.now in
    let grows = c.loop-term.invariant.grows in
    let atoms = term_among first w ts i term term c.requires.over c.loop-term-test.true c.term-item.is in (
      omega (arith, c.decreases),
      (
        tree_goes_on first c.loop-term.arena grows c.args.count c.requires.count,
        (
          atoms_go_on first c.loop-term.arena grows w term.ids atoms,
          (
            over_below_among c.args.below ts i term term c.requires.below c.loop-term-test.true c.term-item.is,
            c.loop-term.invariant.tree,
          ),
        ),
      ),
    )

pub terms_at_turn-returns-in_err-sum-2-clause-tree : goal.terms_at_turn-returns-in_err-sum-2-clause-tree
terms_at_turn-returns-in_err-sum-2-clause-tree t c =
    let ts = c.args.terms.now in
    let i = c.loop-term.term-index in
    let term = c.term-item.result in
    let w = c.args.w.bits in
    let first = c.args.arena.now in
    let new = c.with_monomial.new.arena in
    let count = tree_of first c.args.count in
    let left = drop_next ts i term c.loop-term-test.true ∙ ap (λ s. s ∷ drop (i + 1) ts) (sym c.term-item.is) in
    let atoms = term_among first w ts i term term c.requires.over c.loop-term-test.true c.term-item.is in
    refused (IsAt new w) (IsAt new w)
    (monomial_leads c.args.nest.now c.args.l.0 w count (drop i ts)
    {whole = forms.terms_at_turn c.args.nest.now c.args.l.0 count w (terms_at (meanings first) ts) (constant w 0)}
    c.loop-term.invariant left atoms
    (same_tree_goes_on first c.loop-term.arena c.loop-term.invariant.grows c.args.count c.requires.count))
    c.in_err-sum-2.ensures.tree
    (err_from_is_err_and c.from_residual-in_err-sum-2.result c.from_residual-in_err-sum-2.ensures.1)

pub terms_at_turn-loop-term-preserved : goal.terms_at_turn-loop-term-preserved
terms_at_turn-loop-term-preserved t c =
    let ts = c.args.terms.now in
    let i = c.loop-term.term-index in
    let term = c.term-item.result in
    let w = c.args.w.bits in
    let first = c.args.arena.now in
    let count = tree_of first c.args.count in
    let left = drop_next ts i term c.loop-term-test.true ∙ ap (λ s. s ∷ drop (i + 1) ts) (sym c.term-item.is) in
    let atoms = term_among first w ts i term term c.requires.over c.loop-term-test.true c.term-item.is in
    monomial_added c.args.nest.now c.args.l.0 w count (drop i ts)
    {whole = forms.terms_at_turn c.args.nest.now c.args.l.0 count w (terms_at (meanings first) ts) (constant w 0)}
    c.loop-term.invariant left atoms
    (same_tree_goes_on first c.loop-term.arena c.loop-term.invariant.grows c.args.count c.requires.count)
    c.with_monomial.ensures.grows c.in_ok-sum-2.ensures.tree

pub terms_at_turn-returns-clause-tree : goal.terms_at_turn-returns-clause-tree
terms_at_turn-returns-clause-tree t c =
    let ts = c.args.terms.now in
    let i = c.loop-term.term-index in
    let first = c.args.arena.now in
    let w = c.args.w.bits in
    let count = tree_of first c.args.count in
    let none = drop_all i ts c.loop-term-test.false in (
      tree_of c.loop-term.arena c.loop-term.sum,
      terms_turned c.args.nest.now c.args.l.0 w count (drop i ts)
          {whole = forms.terms_at_turn c.args.nest.now c.args.l.0 count w (terms_at (meanings first) ts) (constant w 0)}
          c.loop-term.invariant none,
      (c.loop-term.invariant.tree, refl),
    )

-- ---- one monomial

pub with_monomial-factors_at_turn-requires : goal.with_monomial-factors_at_turn-requires
with_monomial-factors_at_turn-requires t c =
    let old = c.args.arena.now in
    let middle = c.constant.new.arena in
    let w = c.args.w.bits in
    let ids = c.as_slice-ids.ensures in (
      omega (arith, c.decreases),
      (
        tree_goes_on old middle c.constant.ensures.grows c.args.count c.requires.count,
        (
          subst (AreAtoms middle w) (sym ids)
              (atoms_go_on old middle c.constant.ensures.grows w c.args.term.now.ids c.requires.atoms),
          (subst (AreBelow c.args.below) (sym ids) c.requires.below, c.in_ok-start.ensures.tree.0),
        ),
      ),
    )

pub with_monomial-returns-in_err-product-clause-tree : goal.with_monomial-returns-in_err-product-clause-tree
with_monomial-returns-in_err-product-clause-tree t c =
    let old = c.args.arena.now in
    let middle = c.constant.new.arena in
    let w = c.args.w.bits in
    let term = c.args.term.now in
    let new = c.factors_at_turn.new.arena in
    refused (IsAt new w) (IsAt new w)
    (product_turns c.args.nest.now c.args.l.0 w term.coefficient old middle c.in_ok-start.start
    (tree_of old c.args.sum) (same_tree_goes_on old middle c.constant.ensures.grows c.args.count c.requires.count)
    c.constant.ensures.grows c.requires.atoms c.as_slice-ids.ensures c.in_ok-start.ensures.tree)
    c.in_err-product.ensures.tree
    (err_from_is_err_and c.from_residual-in_err-product.result c.from_residual-in_err-product.ensures.1)

pub with_monomial-make_sum-requires-clause-left : goal.with_monomial-make_sum-requires-clause-left
with_monomial-make_sum-requires-clause-left t c =
    let old = c.args.arena.now in
    let new = c.factors_at_turn.new.arena in
    let grows = goes_on_again old c.constant.new.arena new c.constant.ensures.grows c.factors_at_turn.ensures.grows in
    (wide_goes_on old new grows c.args.w.bits c.args.sum c.requires.sum).0

pub with_monomial-make_sum-requires-clause-width : goal.with_monomial-make_sum-requires-clause-width
with_monomial-make_sum-requires-clause-width t c =
    let old = c.args.arena.now in
    let new = c.factors_at_turn.new.arena in
    let grows = goes_on_again old c.constant.new.arena new c.constant.ensures.grows c.factors_at_turn.ensures.grows in
    c.in_ok-product.ensures.tree.2.0.1 ∙ sym (wide_goes_on old new grows c.args.w.bits c.args.sum c.requires.sum).1

pub with_monomial-returns-clause-tree : goal.with_monomial-returns-clause-tree
with_monomial-returns-clause-tree t c =
    let parents = c.args.nest.now in
    let old = c.args.arena.now in
    let start_in = c.constant.new.arena in
    let middle = c.factors_at_turn.new.arena in
    let w = c.args.w.bits in
    let term = c.args.term.now in
    let sum = c.args.sum in
    let product = c.in_ok-product.product in
    let told = c.in_ok-product.ensures.tree in
    let grows = goes_on_again old start_in middle c.constant.ensures.grows c.factors_at_turn.ensures.grows in
    let leads = product_turns parents c.args.l.0 w term.coefficient old start_in c.in_ok-start.start
    (tree_of old sum) (same_tree_goes_on old start_in c.constant.ensures.grows c.args.count c.requires.count)
    c.constant.ensures.grows c.requires.atoms c.as_slice-ids.ensures c.in_ok-start.ensures.tree in
    sum_told parents c.make_sum.new.arena (tree_of middle sum) (tree_of middle product) c.make_sum.result
    (wide_goes_on old middle grows w sum c.requires.sum).1
    (
    ap (λ tree. tree_sum parents w tree (tree_of middle product))
    (same_tree_goes_on old middle grows sum c.requires.sum.0)
    ∙ ap (tree_sum parents w (tree_of old sum)) told.2.1
    ∙ led_on told.0 leads told.1
    )
    c.make_sum.ensures.tree

-- ---- factors

pub factors_at_turn-atom_at_turn-requires : goal.factors_at_turn-atom_at_turn-requires
factors_at_turn-atom_at_turn-requires t c =
    let ids = c.args.ids.now in
    let i = c.loop-id.id-index in
    let w = c.args.w.bits in
    let first = c.args.arena.now in
    let grows = c.loop-id.invariant.grows in
    let less = below_among c.args.below ids i (record { 0 = 0 }) (id_at ids i) c.requires.below c.loop-id-test.true
    refl in
    let atom = atom_among first w ids i (record { 0 = 0 }) (id_at ids i) c.requires.atoms c.loop-id-test.true
    refl in (
      omega (arith, c.decreases, less),
      (
        tree_goes_on first c.loop-id.arena grows c.args.count c.requires.count,
        (atoms_go_on first c.loop-id.arena grows w (id_at ids i ∷ []) (atom, tt)).0,
      ),
    )

pub factors_at_turn-returns-in_err-factor-clause-tree : goal.factors_at_turn-returns-in_err-factor-clause-tree
factors_at_turn-returns-in_err-factor-clause-tree t c =
    let ids = c.args.ids.now in
    let i = c.loop-id.id-index in
    let w = c.args.w.bits in
    let first = c.args.arena.now in
    let new = c.atom_at_turn.new.arena in
    let left = drop_next ids i (record { 0 = 0 }) c.loop-id-test.true in
    let atom = atom_among first w ids i (record { 0 = 0 }) (id_at ids i) c.requires.atoms c.loop-id-test.true refl in
    refused (IsAt new w) (IsAt new w)
    (atom_leads c.args.nest.now c.args.l.0 w (tree_of first c.args.count) (drop i ids) c.loop-id.invariant left atom
    (same_tree_goes_on first c.loop-id.arena c.loop-id.invariant.grows c.args.count c.requires.count))
    c.in_err-factor.ensures.tree
    (err_from_is_err_and c.from_residual.result c.from_residual.ensures.1)

pub factors_at_turn-make_product-requires-clause-left : goal.factors_at_turn-make_product-requires-clause-left
factors_at_turn-make_product-requires-clause-left t c =
    (wide_goes_on c.loop-id.arena c.atom_at_turn.new.arena c.atom_at_turn.ensures.grows c.args.w.bits
    c.loop-id.product c.loop-id.invariant.tree).0

pub factors_at_turn-make_product-requires-clause-width : goal.factors_at_turn-make_product-requires-clause-width
factors_at_turn-make_product-requires-clause-width t c =
    c.in_ok-factor.ensures.tree.2.0.1
    ∙ sym (wide_goes_on c.loop-id.arena c.atom_at_turn.new.arena c.atom_at_turn.ensures.grows c.args.w.bits
    c.loop-id.product c.loop-id.invariant.tree).1

pub factors_at_turn-returns-in_err-product-clause-tree : goal.factors_at_turn-returns-in_err-product-clause-tree
factors_at_turn-returns-in_err-product-clause-tree t c =
    let ids = c.args.ids.now in
    let i = c.loop-id.id-index in
    let w = c.args.w.bits in
    let first = c.args.arena.now in
    let middle = c.atom_at_turn.new.arena in
    let new = c.make_product.new.arena in
    let grows = c.atom_at_turn.ensures.grows in
    let left = drop_next ids i (record { 0 = 0 }) c.loop-id-test.true in
    let atom = atom_among first w ids i (record { 0 = 0 }) (id_at ids i) c.requires.atoms c.loop-id-test.true refl in
    let wide = wide_goes_on c.loop-id.arena middle grows w c.loop-id.product c.loop-id.invariant.tree in
    refused (IsAt new w) (IsAt new w)
    (times_leads c.args.nest.now c.args.l.0 w (tree_of first c.args.count) (drop i ids) c.loop-id.invariant left atom
    (same_tree_goes_on first c.loop-id.arena c.loop-id.invariant.grows c.args.count c.requires.count)
    grows c.in_ok-factor.factor c.in_ok-factor.ensures.tree)
    (product_told c.args.nest.now new (tree_of middle c.loop-id.product) (tree_of middle c.in_ok-factor.factor)
    (Err c.in_err-product.field-0.0) wide.1 c.in_err-product.ensures.tree)
    (err_from_is_err_and c.from_residual-in_err-product.result c.from_residual-in_err-product.ensures.1)

pub factors_at_turn-loop-id-preserved : goal.factors_at_turn-loop-id-preserved
factors_at_turn-loop-id-preserved t c =
    let ids = c.args.ids.now in
    let i = c.loop-id.id-index in
    let w = c.args.w.bits in
    let first = c.args.arena.now in
    let middle = c.atom_at_turn.new.arena in
    let new = c.make_product.new.arena in
    let grows = c.atom_at_turn.ensures.grows in
    let left = drop_next ids i (record { 0 = 0 }) c.loop-id-test.true in
    let atom = atom_among first w ids i (record { 0 = 0 }) (id_at ids i) c.requires.atoms c.loop-id-test.true refl in
    let wide = wide_goes_on c.loop-id.arena middle grows w c.loop-id.product c.loop-id.invariant.tree in
    multiplied c.args.nest.now c.args.l.0 w (tree_of first c.args.count) (drop i ids) c.loop-id.invariant left atom
    (same_tree_goes_on first c.loop-id.arena c.loop-id.invariant.grows c.args.count c.requires.count)
    grows c.in_ok-factor.factor c.in_ok-factor.ensures.tree c.make_product.ensures.grows
    (product_told c.args.nest.now new (tree_of middle c.loop-id.product) (tree_of middle c.in_ok-factor.factor)
    (Ok c.in_ok-product.product) wide.1 c.in_ok-product.ensures.tree)

pub factors_at_turn-returns-clause-tree : goal.factors_at_turn-returns-clause-tree
factors_at_turn-returns-clause-tree t c =
    let ids = c.args.ids.now in
    let i = c.loop-id.id-index in
    let none = drop_all i ids c.loop-id-test.false in (
      tree_of c.loop-id.arena c.loop-id.product,
      factors_turned c.args.nest.now c.args.l.0 c.args.w.bits (tree_of c.args.arena.now c.args.count) (drop i ids)
          c.loop-id.invariant none,
      (c.loop-id.invariant.tree, refl),
    )

-- ---- parts

pub parts_at_turn-tree_at_turn-requires : goal.parts_at_turn-tree_at_turn-requires
parts_at_turn-tree_at_turn-requires t c =
    let ids = c.args.parts.now in
    let i = c.loop-id.id-index in
    let first = c.args.arena.now in
    let grows = c.loop-id.invariant.grows in
    let less = below_among c.args.below ids i (record { 0 = 0 }) (id_at ids i) c.requires.below c.loop-id-test.true
    refl in
    let tree = tree_among first ids i (record { 0 = 0 }) (id_at ids i) c.requires.trees c.loop-id-test.true refl in (
      omega (arith, c.decreases, less),
      (
        tree_goes_on first c.loop-id.arena grows (id_at ids i) tree,
        tree_goes_on first c.loop-id.arena grows c.args.count c.requires.count,
      ),
    )

pub parts_at_turn-returns-in_err-part-clause-parts : goal.parts_at_turn-returns-in_err-part-clause-parts
parts_at_turn-returns-in_err-part-clause-parts t c =
    let ids = c.args.parts.now in
    let i = c.loop-id.id-index in
    let first = c.args.arena.now in
    let new = c.tree_at_turn.new.arena in
    let left = drop_next ids i (record { 0 = 0 }) c.loop-id-test.true in
    let tree = tree_among first ids i (record { 0 = 0 }) (id_at ids i) c.requires.trees c.loop-id-test.true refl in
    refused (IsAt new (width_of (tree_of c.loop-id.arena (id_at ids i)))) (HoldAt new)
    (part_leads c.loop-id.invariant left tree
    (same_tree_goes_on first c.loop-id.arena c.loop-id.invariant.grows c.args.count c.requires.count))
    c.in_err-part.ensures.tree
    (err_from_is_err_and c.from_residual-in_err-part.result c.from_residual-in_err-part.ensures.1)

pub parts_at_turn-loop-id-preserved : goal.parts_at_turn-loop-id-preserved
parts_at_turn-loop-id-preserved t c =
    let ids = c.args.parts.now in
    let i = c.loop-id.id-index in
    let first = c.args.arena.now in
    let left = drop_next ids i (record { 0 = 0 }) c.loop-id-test.true in
    let tree = tree_among first ids i (record { 0 = 0 }) (id_at ids i) c.requires.trees c.loop-id-test.true refl in
    part_added c.loop-id.invariant left tree
    (same_tree_goes_on first c.loop-id.arena c.loop-id.invariant.grows c.args.count c.requires.count)
    c.in_ok-part.part c.tree_at_turn.ensures.grows c.in_ok-part.ensures.tree
    c.in_ok-push.ensures

pub parts_at_turn-returns-clause-parts : goal.parts_at_turn-returns-clause-parts
parts_at_turn-returns-clause-parts t c =
    let none = drop_all c.loop-id.id-index c.args.parts.now c.loop-id-test.false in (
      trees_at c.loop-id.arena c.loop-id.found.items,
      parts_turned c.loop-id.invariant none,
      (c.loop-id.invariant.trees, refl),
    )

pub parts_at_turn-returns-clause-widths : goal.parts_at_turn-returns-clause-widths
parts_at_turn-returns-clause-widths t c =
    widths_turned c.loop-id.invariant (drop_all c.loop-id.id-index c.args.parts.now c.loop-id-test.false)

-- ---- atoms

pub atom_at_turn-counted-requires-clause-parts : goal.atom_at_turn-counted-requires-clause-parts
atom_at_turn-counted-requires-clause-parts t c =
    let atom = c.atom_at-kind.ensures in
    rec_parts c.args.arena.now c.args.id c.atom_at-kind.result.0 c.atom_at-kind.result.1.bits
    c.atom_at-kind.result.2.now c.args.nest.now c.args.w.bits atom.is atom.parts
    (c.as_slice-ids.ensures ∙ c.in_ok-parts.ensures) c.args.w.bits
    (is_kind c.args.w c.atom_at-kind.result.0 (kind.Rec c.args.l) (sym c.eq.ensures ∙ c.if-eq.true))
    atom.width c.requires.atom atom.trees

pub atom_at_turn-returns-then-eq-clause-tree : goal.atom_at_turn-returns-then-eq-clause-tree
atom_at_turn-returns-then-eq-clause-tree t c =
    let atom = c.atom_at-kind.ensures in
    let nodes = c.args.arena.now in
    let w = c.args.w.bits in
    told_same (IsAt c.counted.new.arena w) _ _ c.counted.result
    (loop_counted nodes c.args.id c.atom_at-kind.result.0 c.atom_at-kind.result.1.bits w c.atom_at-kind.result.2.now
    atom.is (one_width c.atom_at-kind.result.1.bits w _ atom.width c.requires.atom)
    (c.as_slice-ids.ensures ∙ c.in_ok-parts.ensures) c.args.nest.now c.args.l (tree_of nodes c.args.count)
    (is_kind c.args.w c.atom_at-kind.result.0 (kind.Rec c.args.l) (sym c.eq.ensures ∙ c.if-eq.true)))
    c.counted.ensures.tree

pub atom_at_turn-parts_at_turn-requires : goal.atom_at_turn-parts_at_turn-requires
atom_at_turn-parts_at_turn-requires t c =
    let atom = c.atom_at-kind.ensures in
    let nodes = c.args.arena.now in
    let same = c.as_slice-ids.ensures ∙ c.in_ok-parts.ensures in (
      omega (arith, c.decreases),
      (
        c.requires.count,
        (subst (AreTrees nodes) (sym same) atom.trees, subst (AreBelow c.args.id.0) (sym same) atom.below),
      ),
    )

pub atom_at_turn-returns-in_err-formed-clause-tree : goal.atom_at_turn-returns-in_err-formed-clause-tree
atom_at_turn-returns-in_err-formed-clause-tree t c =
    let atom = c.atom_at-kind.ensures in
    let nodes = c.args.arena.now in
    let w = c.args.w.bits in
    let new = c.parts_at_turn.new.arena in
    refused (HoldAt new) (IsAt new w)
    (parts_lead nodes c.args.id c.atom_at-kind.result.0 c.atom_at-kind.result.1.bits w c.atom_at-kind.result.2.now
    atom.is (one_width c.atom_at-kind.result.1.bits w _ atom.width c.requires.atom)
    (c.as_slice-ids.ensures ∙ c.in_ok-parts.ensures) c.args.nest.now c.args.l (tree_of nodes c.args.count)
    (is_other_kind c.args.w c.atom_at-kind.result.0 (kind.Rec c.args.l) (sym c.eq.ensures ∙ c.if-eq.false)))
    c.in_err-formed.ensures.parts
    (err_from_is_err_and c.from_residual-in_err-formed.result c.from_residual-in_err-formed.ensures.1)

pub atom_at_turn-reformed-requires-clause-trees : goal.atom_at_turn-reformed-requires-clause-trees
atom_at_turn-reformed-requires-clause-trees t c =
    subst (AreTrees c.parts_at_turn.new.arena) (sym c.from_vec.ensures) c.in_ok-formed.ensures.parts.2.0

pub atom_at_turn-reformed-requires-clause-kind : goal.atom_at_turn-reformed-requires-clause-kind
atom_at_turn-reformed-requires-clause-kind t c =
    let atom = c.atom_at-kind.ensures in
    let nodes = c.args.arena.now in
    let new = c.parts_at_turn.new.arena in
    let k = c.atom_at-kind.result.0 in
    let w = c.args.w.bits in
    let there = c.atom_at-kind.result.2.now in
    let same = c.as_slice-ids.ensures ∙ c.in_ok-parts.ensures in
    let wide = one_width c.atom_at-kind.result.1.bits w _ atom.width c.requires.atom in
    let has = subst (λ v. HasParts k v (parts_of (trees_at nodes there))) wide atom.parts in
    let widths = sym (ap (λ ids. map width_of (trees_at nodes ids)) same) ∙ sym c.in_ok-formed.ensures.widths in
    subst (λ ids. HasParts k w (parts_of (trees_at new ids))) (sym c.from_vec.ensures)
    (parts_too k w (trees_at nodes there) (trees_at new c.in_ok-formed.formed.items) widths has)

pub atom_at_turn-returns-clause-tree : goal.atom_at_turn-returns-clause-tree
atom_at_turn-returns-clause-tree t c =
    let atom = c.atom_at-kind.ensures in
    let nodes = c.args.arena.now in
    let parents = c.args.nest.now in
    let w = c.args.w.bits in
    let k = c.atom_at-kind.result.0 in
    let middle = c.parts_at_turn.new.arena in
    let told = c.in_ok-formed.ensures.parts in
    let leads = parts_lead nodes c.args.id k c.atom_at-kind.result.1.bits w c.atom_at-kind.result.2.now
    atom.is (one_width c.atom_at-kind.result.1.bits w _ atom.width c.requires.atom)
    (c.as_slice-ids.ensures ∙ c.in_ok-parts.ensures) parents c.args.l (tree_of nodes c.args.count)
    (is_other_kind c.args.w k (kind.Rec c.args.l) (sym c.eq.ensures ∙ c.if-eq.false)) in
    told_same (IsAt c.reformed.new.arena w) _ _ c.reformed.result
    (ap (λ ids. forms.reformed parents w k (trees_at middle ids)) c.from_vec.ensures
    ∙ ap (forms.reformed parents w k) told.2.1
    ∙ led_on told.0 leads told.1)
    c.reformed.ensures.tree
