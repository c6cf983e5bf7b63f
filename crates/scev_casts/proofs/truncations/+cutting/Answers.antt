use Rattle.std.proofs.Common.{ℕ, ◌+◌, ◌==◌, List, [], ◌∷◌, get_or, drop, Vec, Global, Ok, Err, refl, sym, ap, ◌∙◌}
use Rattle.std.proofs.Common.{subst, arith}
use Rattle.std.proofs.lemmas.Bool.{eqb-true}
use Rattle.std.proofs.lemmas.List.{drop_all}
use Rattle.std.proofs.lemmas.Result.{err_from_is_err_and}
use Rattle.scev_base.specs.declared.ids.ExprId.{ExprId}
use Rattle.scev_tree.specs.Tree.{Tree, polynomial, constant}
use Rattle.scev_arena.specs.declared.node.Node.{Node}
use Rattle.scev_arena.specs.Meaning.{meanings, terms_at, tree_of}
use Rattle.scev_arena.specs.Standing.{AreAtoms}
use Rattle.scev_forms.specs.Sums.{tree_sum}
use Rattle.scev_forms.specs.Casts as forms
use Rattle.scev_walk.specs.Reading.{AreBelow}
use Rattle.scev_walk.proofs.Among.{atom_among, term_among}
use Rattle.scev_walk.proofs.Below.{below_among, over_below_among}
use Rattle.scev_sums.specs.Answers.{IsAt, AreAt, trees_at}
use Rattle.scev_sums.proofs.Growth.{goes_on_again, same_tree_goes_on, wide_goes_on, atoms_go_on}
use Rattle.scev_sums.proofs.Held.{tree_among}
use Rattle.scev_sums.proofs.Placing.{drop_next}
use Rattle.scev_sums.proofs.Refusals.{led_on, refused}
use Rattle.scev_sums.proofs.Telling.{told_same}
use Rattle.scev_casts.proofs.AtomsCut.{only_tree, only_below, only_item, trunc_cut, zext_part, zext_cut, sext_part}
use Rattle.scev_casts.proofs.AtomsCut.{sext_cut, rec_leads, rec_parts, rec_some, rec_cut, other_cut}
use Rattle.scev_casts.proofs.Cutting.{same_width, other_width, sum_told, product_told, product_leads, terms_cut}
use Rattle.scev_casts.proofs.Cutting.{monomial_leads, monomial_added, factors_cut, atom_leads, times_leads, multiplied}
use Rattle.scev_casts.proofs.Cutting.{parts_cut, part_leads, part_added}
use Rattle.scev_casts.proofs.truncations.+cutting.Goals as goal

-- the places that a call gives hold these trees
abbrev HoldAt : List Node → ℕ → Vec ExprId Global → List Tree → Type 0
HoldAt nodes w ids trees = AreAt nodes w ids.items trees

-- the place that is looked at
abbrev id_at : List ExprId → ℕ → ExprId
id_at ids i = get_or ids i (record { 0 = 0 })

pub truncated-returns-then-eq-clause-tree : goal.truncated-returns-then-eq-clause-tree
truncated-returns-then-eq-clause-tree t c =
    let w = c.args.w.bits in
    let tree = tree_of c.args.arena.now c.args.id in
    let test = c.eq.ensures ∙ ap (λ v. v == w) c.width.ensures.width in
    let wide = sym c.width.ensures.width ∙ eqb-true c.width.result.bits w (sym c.eq.ensures ∙ c.if-eq.true) in (
      tree,
      same_width c.args.nest.now w tree test c.if-eq.true,
      ((c.requires.tree, wide), refl),
    )

pub truncated-returns-clause-tree : goal.truncated-returns-clause-tree
truncated-returns-clause-tree t c =
    let nodes = c.args.arena.now in
    let w = c.args.w.bits in
    let test = c.eq.ensures ∙ ap (λ v. v == w) c.width.ensures.width in
    let from = c.in_ok-from.from.bits in
    let tree = c.in_ok-from.ensures.tree
    ∙ ap (λ ts. polynomial from (terms_at (meanings nodes) ts)) (sym c.as_slice.ensures) in
    told_same (IsAt c.truncated_terms.new.arena w) _ _ c.truncated_terms.result
    (other_width c.args.nest.now w tree test c.if-eq.false)
    c.truncated_terms.ensures.tree

pub truncated_factors-truncated_atom-requires : goal.truncated_factors-truncated_atom-requires
truncated_factors-truncated_atom-requires t c =
    let ids = c.args.ids.now in
    let i = c.loop-id.id-index in
    let from = c.args.from.bits in
    let first = c.args.arena.now in
    let less = below_among c.args.below ids i (record { 0 = 0 }) (id_at ids i) c.requires.below c.loop-id-test.true
    refl in
    let atom = atom_among first from ids i (record { 0 = 0 }) (id_at ids i) c.requires.atoms c.loop-id-test.true
    refl in (
      omega (arith, c.decreases, less),
      (
        c.requires.width,
        (atoms_go_on first c.loop-id.arena c.loop-id.invariant.grows from (id_at ids i ∷ []) (atom, tt)).0,
      ),
    )

pub truncated_factors-returns-in_err-factor-clause-tree :
    goal.truncated_factors-returns-in_err-factor-clause-tree
truncated_factors-returns-in_err-factor-clause-tree t c =
    let ids = c.args.ids.now in
    let i = c.loop-id.id-index in
    let from = c.args.from.bits in
    let w = c.args.w.bits in
    let new = c.truncated_atom.new.arena in
    let left = drop_next ids i (record { 0 = 0 }) c.loop-id-test.true in
    let atom = atom_among c.args.arena.now from ids i (record { 0 = 0 }) (id_at ids i) c.requires.atoms
    c.loop-id-test.true refl in
    refused (IsAt new w) (IsAt new w)
    (atom_leads c.args.nest.now w (drop i ids) c.loop-id.invariant from left atom)
    c.in_err-factor.ensures.tree
    (err_from_is_err_and c.from_residual.result c.from_residual.ensures.1)

pub truncated_factors-make_product-requires-clause-left :
    goal.truncated_factors-make_product-requires-clause-left
truncated_factors-make_product-requires-clause-left t c =
    (wide_goes_on c.loop-id.arena c.truncated_atom.new.arena c.truncated_atom.ensures.grows c.args.w.bits
    c.loop-id.product c.loop-id.invariant.tree).0

pub truncated_factors-make_product-requires-clause-width :
    goal.truncated_factors-make_product-requires-clause-width
truncated_factors-make_product-requires-clause-width t c =
    c.in_ok-factor.ensures.tree.2.0.1
    ∙ sym (wide_goes_on c.loop-id.arena c.truncated_atom.new.arena c.truncated_atom.ensures.grows c.args.w.bits
    c.loop-id.product c.loop-id.invariant.tree).1

pub truncated_factors-returns-in_err-product-clause-tree :
    goal.truncated_factors-returns-in_err-product-clause-tree
truncated_factors-returns-in_err-product-clause-tree t c =
    let ids = c.args.ids.now in
    let i = c.loop-id.id-index in
    let from = c.args.from.bits in
    let w = c.args.w.bits in
    let middle = c.truncated_atom.new.arena in
    let new = c.make_product.new.arena in
    let grows = c.truncated_atom.ensures.grows in
    let left = drop_next ids i (record { 0 = 0 }) c.loop-id-test.true in
    let atom = atom_among c.args.arena.now from ids i (record { 0 = 0 }) (id_at ids i) c.requires.atoms
    c.loop-id-test.true refl in
    let wide = wide_goes_on c.loop-id.arena middle grows w c.loop-id.product c.loop-id.invariant.tree in
    refused (IsAt new w) (IsAt new w)
    (times_leads c.args.nest.now w (drop i ids) c.loop-id.invariant from left atom grows c.in_ok-factor.factor
    c.in_ok-factor.ensures.tree)
    (product_told c.args.nest.now new (tree_of middle c.loop-id.product) (tree_of middle c.in_ok-factor.factor)
    (Err c.in_err-product.field-0.0) wide.1 c.in_err-product.ensures.tree)
    (err_from_is_err_and c.from_residual-in_err-product.result c.from_residual-in_err-product.ensures.1)

pub truncated_factors-loop-id-preserved : goal.truncated_factors-loop-id-preserved
truncated_factors-loop-id-preserved t c =
    let ids = c.args.ids.now in
    let i = c.loop-id.id-index in
    let from = c.args.from.bits in
    let w = c.args.w.bits in
    let middle = c.truncated_atom.new.arena in
    let new = c.make_product.new.arena in
    let grows = c.truncated_atom.ensures.grows in
    let left = drop_next ids i (record { 0 = 0 }) c.loop-id-test.true in
    let atom = atom_among c.args.arena.now from ids i (record { 0 = 0 }) (id_at ids i) c.requires.atoms
    c.loop-id-test.true refl in
    let wide = wide_goes_on c.loop-id.arena middle grows w c.loop-id.product c.loop-id.invariant.tree in
    multiplied c.args.nest.now w (drop i ids) c.loop-id.invariant from left atom grows c.in_ok-factor.factor
    c.in_ok-factor.ensures.tree c.make_product.ensures.grows
    (product_told c.args.nest.now new (tree_of middle c.loop-id.product) (tree_of middle c.in_ok-factor.factor)
    (Ok c.in_ok-product.product) wide.1 c.in_ok-product.ensures.tree)

pub truncated_factors-returns-clause-tree : goal.truncated_factors-returns-clause-tree
truncated_factors-returns-clause-tree t c =
    let ids = c.args.ids.now in
    let i = c.loop-id.id-index in
    let none = drop_all i ids c.loop-id-test.false in (
      tree_of c.loop-id.arena c.loop-id.product,
      factors_cut c.args.nest.now c.args.w.bits (drop i ids) c.loop-id.invariant none,
      (c.loop-id.invariant.tree, refl),
    )

pub truncated_parts-truncated-requires : goal.truncated_parts-truncated-requires
truncated_parts-truncated-requires t c =
    let ids = c.args.parts.now in
    let i = c.loop-id.id-index in
    let from = c.args.from.bits in
    let first = c.args.arena.now in
    let less = below_among c.args.below ids i (record { 0 = 0 }) (id_at ids i) c.requires.below c.loop-id-test.true
    refl in
    let tree = wide_goes_on first c.loop-id.arena c.loop-id.invariant.grows from (id_at ids i)
    (tree_among first from ids i (record { 0 = 0 }) c.requires.trees c.loop-id-test.true) in
    (omega (arith, c.decreases, less), (tree.0, omega (arith, tree.1, c.requires.width)))

pub truncated_parts-returns-in_err-part-clause-parts :
    goal.truncated_parts-returns-in_err-part-clause-parts
truncated_parts-returns-in_err-part-clause-parts t c =
    let ids = c.args.parts.now in
    let i = c.loop-id.id-index in
    let from = c.args.from.bits in
    let w = c.args.w.bits in
    let first = c.args.arena.now in
    let new = c.truncated.new.arena in
    let left = drop_next ids i (record { 0 = 0 }) c.loop-id-test.true in
    let tree = tree_among first from ids i (record { 0 = 0 }) c.requires.trees c.loop-id-test.true in
    refused (IsAt new w) (HoldAt new w) (part_leads c.loop-id.invariant from left tree) c.in_err-part.ensures.tree
    (err_from_is_err_and c.from_residual-in_err-part.result c.from_residual-in_err-part.ensures.1)

pub truncated_parts-loop-id-preserved : goal.truncated_parts-loop-id-preserved
truncated_parts-loop-id-preserved t c =
    let ids = c.args.parts.now in
    let i = c.loop-id.id-index in
    let from = c.args.from.bits in
    let first = c.args.arena.now in
    let left = drop_next ids i (record { 0 = 0 }) c.loop-id-test.true in
    let tree = tree_among first from ids i (record { 0 = 0 }) c.requires.trees c.loop-id-test.true in
    part_added c.loop-id.invariant from left tree c.in_ok-part.part c.truncated.ensures.grows c.in_ok-part.ensures.tree
    c.in_ok-push.ensures

pub truncated_parts-returns-clause-parts : goal.truncated_parts-returns-clause-parts
truncated_parts-returns-clause-parts t c =
    let none = drop_all c.loop-id.id-index c.args.parts.now c.loop-id-test.false in (
      trees_at c.loop-id.arena c.loop-id.cut.items,
      parts_cut c.loop-id.invariant none,
      (c.loop-id.invariant.trees, refl),
    )

pub truncated_terms-with_monomial-requires : goal.truncated_terms-with_monomial-requires
truncated_terms-with_monomial-requires t c =
    let ts = c.args.terms.now in
    let i = c.loop-term.term-index in
    let term = c.term-item.result in
    let from = c.args.from.bits in
    let first = c.args.arena.now in
    let atoms = term_among first from ts i term term c.requires.over c.loop-term-test.true c.term-item.is in (
      omega (arith, c.decreases),
      (
        c.requires.width,
        (
          atoms_go_on first c.loop-term.arena c.loop-term.invariant.grows from term.ids atoms,
          (
            over_below_among c.args.below ts i term term c.requires.below c.loop-term-test.true c.term-item.is,
            c.loop-term.invariant.tree,
          ),
        ),
      ),
    )

pub truncated_terms-returns-in_err-sum-2-clause-tree :
    goal.truncated_terms-returns-in_err-sum-2-clause-tree
truncated_terms-returns-in_err-sum-2-clause-tree t c =
    let ts = c.args.terms.now in
    let i = c.loop-term.term-index in
    let term = c.term-item.result in
    let from = c.args.from.bits in
    let w = c.args.w.bits in
    let new = c.with_monomial.new.arena in
    let left = drop_next ts i term c.loop-term-test.true ∙ ap (λ s. s ∷ drop (i + 1) ts) (sym c.term-item.is) in
    let atoms = term_among c.args.arena.now from ts i term term c.requires.over c.loop-term-test.true c.term-item.is in
    refused (IsAt new w) (IsAt new w)
    (monomial_leads c.args.nest.now w (drop i ts)
    {whole = forms.truncated_terms c.args.nest.now w (terms_at (meanings c.args.arena.now) ts) (constant w 0)}
    c.loop-term.invariant from left atoms)
    c.in_err-sum-2.ensures.tree
    (err_from_is_err_and c.from_residual-in_err-sum-2.result c.from_residual-in_err-sum-2.ensures.1)

pub truncated_terms-loop-term-preserved : goal.truncated_terms-loop-term-preserved
truncated_terms-loop-term-preserved t c =
    let ts = c.args.terms.now in
    let i = c.loop-term.term-index in
    let term = c.term-item.result in
    let from = c.args.from.bits in
    let w = c.args.w.bits in
    let left = drop_next ts i term c.loop-term-test.true ∙ ap (λ s. s ∷ drop (i + 1) ts) (sym c.term-item.is) in
    let atoms = term_among c.args.arena.now from ts i term term c.requires.over c.loop-term-test.true c.term-item.is in
    monomial_added c.args.nest.now w (drop i ts)
    {whole = forms.truncated_terms c.args.nest.now w (terms_at (meanings c.args.arena.now) ts) (constant w 0)}
    c.loop-term.invariant from left atoms c.with_monomial.ensures.grows
    c.in_ok-sum-2.ensures.tree

pub truncated_terms-returns-clause-tree : goal.truncated_terms-returns-clause-tree
truncated_terms-returns-clause-tree t c =
    let ts = c.args.terms.now in
    let i = c.loop-term.term-index in
    let none = drop_all i ts c.loop-term-test.false in (
      tree_of c.loop-term.arena c.loop-term.sum,
      terms_cut c.args.nest.now c.args.w.bits (drop i ts)
          {whole = forms.truncated_terms c.args.nest.now c.args.w.bits (terms_at (meanings c.args.arena.now) ts)
          (constant c.args.w.bits 0)}
          c.loop-term.invariant none,
      (c.loop-term.invariant.tree, refl),
    )

pub with_monomial-truncated_factors-requires : goal.with_monomial-truncated_factors-requires
with_monomial-truncated_factors-requires t c =
    let old = c.args.arena.now in
    let middle = c.constant.new.arena in
    let from = c.args.from.bits in
    let ids = c.as_slice-ids.ensures in (
      omega (arith, c.decreases),
      (
        c.requires.width,
        (
          subst (AreAtoms middle from) (sym ids)
              (atoms_go_on old middle c.constant.ensures.grows from c.args.term.now.ids c.requires.atoms),
          (subst (AreBelow c.args.below) (sym ids) c.requires.below, c.in_ok-start.ensures.tree.0),
        ),
      ),
    )

pub with_monomial-returns-in_err-product-clause-tree :
    goal.with_monomial-returns-in_err-product-clause-tree
with_monomial-returns-in_err-product-clause-tree t c =
    let old = c.args.arena.now in
    let w = c.args.w.bits in
    let term = c.args.term.now in
    let new = c.truncated_factors.new.arena in
    refused (IsAt new w) (IsAt new w)
    (product_leads c.args.nest.now c.args.from.bits w term.coefficient old c.constant.new.arena c.in_ok-start.start
    (tree_of old c.args.sum) c.constant.ensures.grows c.requires.atoms c.as_slice-ids.ensures c.trunc.ensures.value
    c.if-trunc-eq0.false c.in_ok-start.ensures.tree)
    c.in_err-product.ensures.tree
    (err_from_is_err_and c.from_residual-in_err-product.result c.from_residual-in_err-product.ensures.1)

pub with_monomial-make_sum-requires-clause-left : goal.with_monomial-make_sum-requires-clause-left
with_monomial-make_sum-requires-clause-left t c =
    let old = c.args.arena.now in
    let new = c.truncated_factors.new.arena in
    let grows = goes_on_again old c.constant.new.arena new c.constant.ensures.grows c.truncated_factors.ensures.grows in
    (wide_goes_on old new grows c.args.w.bits c.args.sum c.requires.sum).0

pub with_monomial-make_sum-requires-clause-width :
    goal.with_monomial-make_sum-requires-clause-width
with_monomial-make_sum-requires-clause-width t c =
    let old = c.args.arena.now in
    let new = c.truncated_factors.new.arena in
    let grows = goes_on_again old c.constant.new.arena new c.constant.ensures.grows c.truncated_factors.ensures.grows in
    c.in_ok-product.ensures.tree.2.0.1 ∙ sym (wide_goes_on old new grows c.args.w.bits c.args.sum c.requires.sum).1

pub with_monomial-returns-clause-tree : goal.with_monomial-returns-clause-tree
with_monomial-returns-clause-tree t c =
    let parents = c.args.nest.now in
    let old = c.args.arena.now in
    let middle = c.truncated_factors.new.arena in
    let w = c.args.w.bits in
    let term = c.args.term.now in
    let sum = c.args.sum in
    let product = c.in_ok-product.product in
    let told = c.in_ok-product.ensures.tree in
    let grows = goes_on_again old c.constant.new.arena middle c.constant.ensures.grows
    c.truncated_factors.ensures.grows in
    let leads = product_leads parents c.args.from.bits w term.coefficient old c.constant.new.arena c.in_ok-start.start
    (tree_of old sum) c.constant.ensures.grows c.requires.atoms c.as_slice-ids.ensures c.trunc.ensures.value
    c.if-trunc-eq0.false c.in_ok-start.ensures.tree in
    sum_told parents c.make_sum.new.arena (tree_of middle sum) (tree_of middle product) c.make_sum.result
    (wide_goes_on old middle grows w sum c.requires.sum).1
    (
    ap (λ tree. tree_sum parents w tree (tree_of middle product))
    (same_tree_goes_on old middle grows sum c.requires.sum.0)
    ∙ ap (tree_sum parents w (tree_of old sum)) told.2.1
    ∙ led_on told.0 leads told.1
    )
    c.make_sum.ensures.tree

pub truncated_atom-of_extended-requires : goal.truncated_atom-of_extended-requires
truncated_atom-of_extended-requires t c =
    let nodes = c.args.arena.now in
    let atom = c.atom_at-kind.ensures in
    let same = c.as_slice.ensures ∙ c.in_ok-parts.ensures in
    let one = zext_part nodes c.args.id c.atom_at-kind.result.0 c.atom_at-kind.result.1.bits
    c.atom_at-kind.result.2.now c.args.nest.now c.args.w.bits atom.is atom.parts same c.in-Zext.is in
    let d : ExprId = record { 0 = 0 } in
    let less = only_below d same one c.args.id.0 atom.below in (
      omega (arith, c.decreases, less),
      (only_tree d same one nodes atom.trees, ((λ v less. less), only_item d c.as_slice.ensures one)),
    )

pub truncated_atom-returns-in-Zext-clause-tree : goal.truncated_atom-returns-in-Zext-clause-tree
truncated_atom-returns-in-Zext-clause-tree t c =
    let atom = c.atom_at-kind.ensures in
    let w = c.args.w.bits in
    told_same (IsAt c.of_extended.new.arena w) _ _ c.of_extended.result
    (zext_cut c.args.arena.now c.args.id c.atom_at-kind.result.0 c.atom_at-kind.result.1.bits
    c.atom_at-kind.result.2.now c.args.nest.now w atom.is atom.parts (c.as_slice.ensures ∙ c.in_ok-parts.ensures)
    (record { 0 = 0 }) c.in-Zext.is)
    c.of_extended.ensures.tree

pub truncated_atom-of_extended-requires-in-Sext : goal.truncated_atom-of_extended-requires-in-Sext
truncated_atom-of_extended-requires-in-Sext t c =
    let nodes = c.args.arena.now in
    let atom = c.atom_at-kind.ensures in
    let same = c.as_slice-in-Sext.ensures ∙ c.in_ok-parts.ensures in
    let one = sext_part nodes c.args.id c.atom_at-kind.result.0 c.atom_at-kind.result.1.bits
    c.atom_at-kind.result.2.now c.args.nest.now c.args.w.bits atom.is atom.parts same c.in-Sext.is in
    let d : ExprId = record { 0 = 0 } in
    let less = only_below d same one c.args.id.0 atom.below in (
      omega (arith, c.decreases, less),
      (only_tree d same one nodes atom.trees, ((λ v less. less), only_item d c.as_slice-in-Sext.ensures one)),
    )

pub truncated_atom-returns-in-Sext-clause-tree : goal.truncated_atom-returns-in-Sext-clause-tree
truncated_atom-returns-in-Sext-clause-tree t c =
    let atom = c.atom_at-kind.ensures in
    let w = c.args.w.bits in
    told_same (IsAt c.of_extended-in-Sext.new.arena w) _ _ c.of_extended-in-Sext.result
    (sext_cut c.args.arena.now c.args.id c.atom_at-kind.result.0 c.atom_at-kind.result.1.bits
    c.atom_at-kind.result.2.now c.args.nest.now w atom.is atom.parts
    (c.as_slice-in-Sext.ensures ∙ c.in_ok-parts.ensures)
    (record { 0 = 0 }) c.in-Sext.is)
    c.of_extended-in-Sext.ensures.tree

pub truncated_atom-returns-in-Trunc-clause-tree : goal.truncated_atom-returns-in-Trunc-clause-tree
truncated_atom-returns-in-Trunc-clause-tree t c =
    let atom = c.atom_at-kind.ensures in
    let w = c.args.w.bits in
    told_same (IsAt c.made.new.arena w) _ _ c.made.result
    (trunc_cut c.args.arena.now c.args.id c.atom_at-kind.result.0 c.atom_at-kind.result.1.bits
    c.atom_at-kind.result.2.now c.args.nest.now w atom.is atom.parts c.in_ok-parts.ensures c.in-Trunc.is)
    c.made.ensures.tree

pub truncated_atom-truncated_parts-requires : goal.truncated_atom-truncated_parts-requires
truncated_atom-truncated_parts-requires t c =
    let nodes = c.args.arena.now in
    let atom = c.atom_at-kind.ensures in
    let same = c.as_slice-ids.ensures ∙ c.in_ok-parts.ensures in (
      omega (arith, c.decreases),
      (
        c.requires.width,
        (
          rec_parts nodes c.args.id c.atom_at-kind.result.0 c.atom_at-kind.result.1.bits c.atom_at-kind.result.2.now
              c.args.nest.now c.args.w.bits atom.is atom.parts same c.args.from.bits c.in-Rec.is atom.width
              c.requires.atom atom.trees,
          subst (AreBelow c.args.id.0) (sym same) atom.below,
        ),
      ),
    )

pub truncated_atom-returns-in_err-parts-in-Rec-clause-tree :
    goal.truncated_atom-returns-in_err-parts-in-Rec-clause-tree
truncated_atom-returns-in_err-parts-in-Rec-clause-tree t c =
    let atom = c.atom_at-kind.ensures in
    let w = c.args.w.bits in
    let new = c.truncated_parts.new.arena in
    refused (HoldAt new w) (IsAt new w)
    (rec_leads c.args.arena.now c.args.id c.atom_at-kind.result.0 c.atom_at-kind.result.1.bits
    c.atom_at-kind.result.2.now c.args.nest.now w atom.is atom.parts
    (c.as_slice-ids.ensures ∙ c.in_ok-parts.ensures) c.in-Rec.is)
    c.in_err-parts-in-Rec.ensures.parts
    (err_from_is_err_and c.from_residual-in_err-parts-in-Rec.result c.from_residual-in_err-parts-in-Rec.ensures.1)

pub truncated_atom-make_rec-requires-clause-some : goal.truncated_atom-make_rec-requires-clause-some
truncated_atom-make_rec-requires-clause-some t c =
    let atom = c.atom_at-kind.ensures in
    rec_some c.args.arena.now c.args.id c.atom_at-kind.result.0 c.atom_at-kind.result.1.bits
    c.atom_at-kind.result.2.now c.args.nest.now c.args.w.bits atom.is atom.parts
    (c.as_slice-ids.ensures ∙ c.in_ok-parts.ensures) c.truncated_parts.new.arena c.in-Rec.is
    c.in_ok-parts-in-Rec.ensures.parts c.deref.ensures.value

pub truncated_atom-returns-in_ok-parts-in-Rec-clause-tree :
    goal.truncated_atom-returns-in_ok-parts-in-Rec-clause-tree
truncated_atom-returns-in_ok-parts-in-Rec-clause-tree t c =
    let atom = c.atom_at-kind.ensures in
    let w = c.args.w.bits in
    told_same (IsAt c.make_rec.new.arena w) _ _ c.make_rec.result
    (rec_cut c.args.arena.now c.args.id c.atom_at-kind.result.0 c.atom_at-kind.result.1.bits
    c.atom_at-kind.result.2.now c.args.nest.now w atom.is atom.parts
    (c.as_slice-ids.ensures ∙ c.in_ok-parts.ensures) c.truncated_parts.new.arena c.in-Rec.is
    c.in_ok-parts-in-Rec.ensures.parts c.deref.ensures.value)
    c.make_rec.ensures.tree

pub truncated_atom-returns-in_default : goal.truncated_atom-returns-in_default
truncated_atom-returns-in_default t c =
    let atom = c.atom_at-kind.ensures in
    let w = c.args.w.bits in
    let other = c.in_default in record {
      grows = c.of_whole.ensures.grows;
      tree = told_same (IsAt c.of_whole.new.arena w) _ _ c.of_whole.result
          (other_cut c.args.arena.now c.args.id c.atom_at-kind.result.0 c.atom_at-kind.result.1.bits
          c.atom_at-kind.result.2.now c.args.nest.now w atom.is atom.parts c.in_ok-parts.ensures c.args.from.bits
          atom.width c.requires.atom other.not-Trunc other.not-Zext other.not-Sext other.not-Rec)
          c.of_whole.ensures.tree;
    }
