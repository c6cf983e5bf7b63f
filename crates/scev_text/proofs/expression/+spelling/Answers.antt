use Rattle.std.proofs.Common.{◌+◌, ◌++◌, ◌<◌, ◌≤◌, ℕ, ap, List, length, get_or, drop, map, refl, sym, subst, ◌∙◌}
use Rattle.std.proofs.Common.{arith, add-one, codes, length-drop}
use Rattle.scev_base.specs.declared.ids.ExprId.{ExprId}
use Rattle.scev_tree.specs.Tree.{parts_of}
use Rattle.scev_arena.specs.Meaning.{meanings, tree_of, factors_at}
use Rattle.scev_arena.specs.Standing.{AreTrees, AreAtoms, AreOverAtoms}
use Rattle.scev_walk.specs.Reading.{AreBelow, AreOverBelow}
use Rattle.scev_walk.proofs.Among.{tree_among, atom_among, term_among}
use Rattle.scev_walk.proofs.Below.{below_among, over_below_among}
use Rattle.ir_printer.specs.Shown.{shown}
use Rattle.std.proofs.lemmas.Result.{on_ok_weaker}
use Rattle.scev_text.specs.Text.{monomial_text, factors_texts, parts_texts}
use Rattle.scev_text.proofs.Pieces.{hands_on, is_none, is_some, from_here, behind_next, behind_done}
use Rattle.scev_text.proofs.Pieces.{listed_none, listed_all, enclosed-one, enclosed_all, enclosed_listed, cast_written}
use Rattle.scev_text.proofs.Pieces.{monomial-none, monomial-plain, monomial-many}
use Rattle.scev_text.proofs.Texts.{parts_first, parts_many, factors_first, factors_many, terms_first, terms_many}
use Rattle.scev_text.proofs.Texts.{one_part, many_parts, atom_told, cast_told, sum_none, sum_some, sum_one}
use Rattle.scev_text.proofs.expression.+spelling.Goals as goal

-- the place that is looked at
abbrev id_at : List ExprId → ℕ → ExprId
id_at ids i = get_or ids i (record { 0 = 0 })

-- ---- further factors

pub push_further_factors-push_atom-requires : goal.push_further_factors-push_atom-requires
push_further_factors-push_atom-requires t c =
    let ids = c.args.ids.now in
    let i = c.loop-id.id-index in
    let less = below_among c.args.below ids i (record { 0 = 0 }) (id_at ids i) c.requires.below c.loop-id-test.true
    refl in (
      omega (arith, c.decreases, less),
      (
        c.args.w.bits,
        atom_among c.args.arena.now c.args.w.bits ids i (record { 0 = 0 }) (id_at ids i)
            c.requires.atoms c.loop-id-test.true refl,
      ),
    )

pub push_further_factors-loop-id-preserved : goal.push_further_factors-loop-id-preserved
push_further_factors-loop-id-preserved t c =
    let ids = c.args.ids.now in
    let i = c.loop-id.id-index in
    behind_next (codes " * ") _ _ _ _ _ _ _
    (factors_first (shown c.args.names.now) c.args.headers.now (meanings c.args.arena.now) (id_at ids i)
    (drop (i + 1) ids) (drop i ids)
    (from_here ids i (i + 1) (record { 0 = 0 }) (id_at ids i) (add-one i) c.loop-id-test.true refl))
    c.in_ok-extend_from_slice.ensures.items c.in_ok-push_atom.ensures c.loop-id.invariant

pub push_further_factors-returns : goal.push_further_factors-returns
push_further_factors-returns t c =
    let ids = c.args.ids.now in
    let i = c.loop-id.id-index in
    let many = factors_many (shown c.args.names.now) c.args.headers.now (meanings c.args.arena.now) (drop i ids) in
    behind_done (codes " * ") _ _ _ (omega (arith, many, length-drop i ids, c.loop-id-test.false)) c.loop-id.invariant

-- ---- further parts

pub push_further_parts-push_expr-requires : goal.push_further_parts-push_expr-requires
push_further_parts-push_expr-requires t c =
    let ids = c.args.parts.now in
    let i = c.loop-id.id-index in
    let less = below_among c.args.below ids i (record { 0 = 0 }) (id_at ids i) c.requires.below c.loop-id-test.true
    refl in (
      omega (arith, c.decreases, less),
      tree_among c.args.arena.now ids i (record { 0 = 0 }) (id_at ids i)
          c.requires.trees c.loop-id-test.true refl,
    )

pub push_further_parts-loop-id-preserved : goal.push_further_parts-loop-id-preserved
push_further_parts-loop-id-preserved t c =
    let ids = c.args.parts.now in
    let i = c.loop-id.id-index in
    behind_next c.args.between.now _ _ _ _ _ _ _
    (parts_first (shown c.args.names.now) c.args.headers.now c.args.arena.now (id_at ids i)
    (drop (i + 1) ids) (drop i ids)
    (from_here ids i (i + 1) (record { 0 = 0 }) (id_at ids i) (add-one i) c.loop-id-test.true refl))
    c.in_ok-extend_from_slice.ensures.items c.in_ok-push_expr.ensures c.loop-id.invariant

pub push_further_parts-returns : goal.push_further_parts-returns
push_further_parts-returns t c =
    let ids = c.args.parts.now in
    let i = c.loop-id.id-index in
    let many = parts_many (shown c.args.names.now) c.args.headers.now c.args.arena.now (drop i ids) in
    behind_done c.args.between.now _ _ _ (omega (arith, many, length-drop i ids, c.loop-id-test.false))
    c.loop-id.invariant

-- ---- further monomials

pub push_further_monomials-push_monomial-requires : goal.push_further_monomials-push_monomial-requires
push_further_monomials-push_monomial-requires t c =
    let nodes = c.args.arena.now in
    let ts = c.args.terms.now in
    let i = c.loop-term.term-index in
    let w = c.args.w.bits in (
      omega (arith, c.decreases),
      (
        term_among nodes w ts i c.term-item.result c.term-item.result c.requires.over c.loop-term-test.true
            c.term-item.is,
        over_below_among c.args.below ts i c.term-item.result c.term-item.result c.requires.below
            c.loop-term-test.true c.term-item.is,
      ),
    )

pub push_further_monomials-loop-term-preserved : goal.push_further_monomials-loop-term-preserved
push_further_monomials-loop-term-preserved t c =
    let ts = c.args.terms.now in
    let i = c.loop-term.term-index in
    let s = c.term-item.result in
    behind_next (codes " + ") _ _ _ _ _ _ _
    (terms_first (shown c.args.names.now) c.args.headers.now (meanings c.args.arena.now) c.args.w.bits s
    (drop (i + 1) ts) (drop i ts)
    (from_here ts i (i + 1) s s (add-one i) c.loop-term-test.true c.term-item.is))
    c.in_ok-extend_from_slice.ensures.items c.in_ok-push_monomial.ensures c.loop-term.invariant

pub push_further_monomials-returns : goal.push_further_monomials-returns
push_further_monomials-returns t c =
    let ts = c.args.terms.now in
    let i = c.loop-term.term-index in
    let many = terms_many (shown c.args.names.now) c.args.headers.now (meanings c.args.arena.now) c.args.w.bits
    (drop i ts) in
    behind_done (codes " + ") _ _ _ (omega (arith, many, length-drop i ts, c.loop-term-test.false))
    c.loop-term.invariant

-- ---- parts

pub push_parts-push_expr-requires : goal.push_parts-push_expr-requires
push_parts-push_expr-requires t c =
    let trees = subst (AreTrees c.args.arena.now) c.in-Some.ensures.cases.0 c.requires.trees in
    let below = subst (AreBelow c.args.below) c.in-Some.ensures.cases.0 c.requires.below in
    let less = below.0 in
    (omega (arith, c.decreases, less), trees.0)

pub push_parts-push_further_parts-requires : goal.push_parts-push_further_parts-requires
push_parts-push_further_parts-requires t c =
    let trees = subst (AreTrees c.args.arena.now) c.in-Some.ensures.cases.0 c.requires.trees in
    let below = subst (AreBelow c.args.below) c.in-Some.ensures.cases.0 c.requires.below in
    (omega (arith, c.decreases), (trees.1, below.1))

pub push_parts-returns-in_default : goal.push_parts-returns-in_default
push_parts-returns-in_default t c =
    let many = parts_many (shown c.args.names.now) c.args.headers.now c.args.arena.now c.args.parts.now in
    listed_none c.args.between.now c.args.out.now.items _ (many ∙ c.in_default.ensures.cases)

pub push_parts-returns : goal.push_parts-returns
push_parts-returns t c =
    let told = parts_first (shown c.args.names.now) c.args.headers.now c.args.arena.now _ _ _
    c.in-Some.ensures.cases.0 in
    on_ok_weaker c.push_further_parts.result
    (λ n. listed_all c.args.between.now _ _ _ _ _ _ told c.in_ok-push_expr.ensures n)
    c.push_further_parts.ensures

-- ---- atoms

pub push_atom-push_cast-requires : goal.push_atom-push_cast-requires
push_atom-push_cast-requires t c =
    let at = c.atom_at-kind.ensures in
    let one = one_part c.args.arena.now _ _ _ _ c.in-Trunc.is tt at.parts in
    (omega (arith, c.decreases), (at.trees, (at.below, one)))

pub push_atom-push_cast-requires-in-Zext : goal.push_atom-push_cast-requires-in-Zext
push_atom-push_cast-requires-in-Zext t c =
    let at = c.atom_at-kind.ensures in
    let one = one_part c.args.arena.now _ _ _ _ c.in-Zext.is tt at.parts in
    (omega (arith, c.decreases), (at.trees, (at.below, one)))

pub push_atom-push_cast-requires-in-Sext : goal.push_atom-push_cast-requires-in-Sext
push_atom-push_cast-requires-in-Sext t c =
    let at = c.atom_at-kind.ensures in
    let one = one_part c.args.arena.now _ _ _ _ c.in-Sext.is tt at.parts in
    (omega (arith, c.decreases), (at.trees, (at.below, one)))

pub push_atom-push_enclosed-requires : goal.push_atom-push_enclosed-requires
push_atom-push_enclosed-requires t c =
    let at = c.atom_at-kind.ensures in
    let many = many_parts c.args.arena.now _ _ _ _ c.in-Udiv.is tt at.parts in
    (omega (arith, c.decreases), (at.trees, (at.below, many)))

pub push_atom-push_enclosed-requires-in-Smax : goal.push_atom-push_enclosed-requires-in-Smax
push_atom-push_enclosed-requires-in-Smax t c =
    let at = c.atom_at-kind.ensures in
    let many = many_parts c.args.arena.now _ _ _ _ c.in-Smax.is tt at.parts in
    (omega (arith, c.decreases), (at.trees, (at.below, many)))

pub push_atom-push_enclosed-requires-in-Umax : goal.push_atom-push_enclosed-requires-in-Umax
push_atom-push_enclosed-requires-in-Umax t c =
    let at = c.atom_at-kind.ensures in
    let many = many_parts c.args.arena.now _ _ _ _ c.in-Umax.is tt at.parts in
    (omega (arith, c.decreases), (at.trees, (at.below, many)))

pub push_atom-push_enclosed-requires-in-Smin : goal.push_atom-push_enclosed-requires-in-Smin
push_atom-push_enclosed-requires-in-Smin t c =
    let at = c.atom_at-kind.ensures in
    let many = many_parts c.args.arena.now _ _ _ _ c.in-Smin.is tt at.parts in
    (omega (arith, c.decreases), (at.trees, (at.below, many)))

pub push_atom-push_enclosed-requires-in-Umin : goal.push_atom-push_enclosed-requires-in-Umin
push_atom-push_enclosed-requires-in-Umin t c =
    let at = c.atom_at-kind.ensures in
    let many = many_parts c.args.arena.now _ _ _ _ c.in-Umin.is tt at.parts in
    (omega (arith, c.decreases), (at.trees, (at.below, many)))

pub push_atom-push_enclosed-requires-in-Seq : goal.push_atom-push_enclosed-requires-in-Seq
push_atom-push_enclosed-requires-in-Seq t c =
    let at = c.atom_at-kind.ensures in
    let many = many_parts c.args.arena.now _ _ _ _ c.in-Seq.is tt at.parts in
    (omega (arith, c.decreases), (at.trees, (at.below, many)))

pub push_atom-returns-in-Trunc : goal.push_atom-returns-in-Trunc
push_atom-returns-in-Trunc t c =
    hands_on c.push_cast.result _ _ _ _
    (atom_told (shown c.args.names.now) c.args.headers.now _ _ _ _ _ c.atom_at-kind.ensures.is c.in-Trunc.is)
    c.push_cast.ensures

pub push_atom-returns-in-Zext : goal.push_atom-returns-in-Zext
push_atom-returns-in-Zext t c =
    hands_on c.push_cast-in-Zext.result _ _ _ _
    (atom_told (shown c.args.names.now) c.args.headers.now _ _ _ _ _ c.atom_at-kind.ensures.is c.in-Zext.is)
    c.push_cast-in-Zext.ensures

pub push_atom-returns-in-Sext : goal.push_atom-returns-in-Sext
push_atom-returns-in-Sext t c =
    hands_on c.push_cast-in-Sext.result _ _ _ _
    (atom_told (shown c.args.names.now) c.args.headers.now _ _ _ _ _ c.atom_at-kind.ensures.is c.in-Sext.is)
    c.push_cast-in-Sext.ensures

pub push_atom-returns-in-Udiv : goal.push_atom-returns-in-Udiv
push_atom-returns-in-Udiv t c =
    hands_on c.push_enclosed.result _ _ _ _
    (atom_told (shown c.args.names.now) c.args.headers.now _ _ _ _ _ c.atom_at-kind.ensures.is c.in-Udiv.is)
    c.push_enclosed.ensures

pub push_atom-returns-in-Smax : goal.push_atom-returns-in-Smax
push_atom-returns-in-Smax t c =
    hands_on c.push_enclosed-in-Smax.result _ _ _ _
    (atom_told (shown c.args.names.now) c.args.headers.now _ _ _ _ _ c.atom_at-kind.ensures.is c.in-Smax.is)
    c.push_enclosed-in-Smax.ensures

pub push_atom-returns-in-Umax : goal.push_atom-returns-in-Umax
push_atom-returns-in-Umax t c =
    hands_on c.push_enclosed-in-Umax.result _ _ _ _
    (atom_told (shown c.args.names.now) c.args.headers.now _ _ _ _ _ c.atom_at-kind.ensures.is c.in-Umax.is)
    c.push_enclosed-in-Umax.ensures

pub push_atom-returns-in-Smin : goal.push_atom-returns-in-Smin
push_atom-returns-in-Smin t c =
    hands_on c.push_enclosed-in-Smin.result _ _ _ _
    (atom_told (shown c.args.names.now) c.args.headers.now _ _ _ _ _ c.atom_at-kind.ensures.is c.in-Smin.is)
    c.push_enclosed-in-Smin.ensures

pub push_atom-returns-in-Umin : goal.push_atom-returns-in-Umin
push_atom-returns-in-Umin t c =
    hands_on c.push_enclosed-in-Umin.result _ _ _ _
    (atom_told (shown c.args.names.now) c.args.headers.now _ _ _ _ _ c.atom_at-kind.ensures.is c.in-Umin.is)
    c.push_enclosed-in-Umin.ensures

pub push_atom-returns-in-Seq : goal.push_atom-returns-in-Seq
push_atom-returns-in-Seq t c =
    hands_on c.push_enclosed-in-Seq.result _ _ _ _
    (atom_told (shown c.args.names.now) c.args.headers.now _ _ _ _ _ c.atom_at-kind.ensures.is c.in-Seq.is)
    c.push_enclosed-in-Seq.ensures

pub push_atom-returns-in-Rec : goal.push_atom-returns-in-Rec
push_atom-returns-in-Rec t c =
    hands_on c.push_recurrence.result _ _ _ _
    (atom_told (shown c.args.names.now) c.args.headers.now _ _ _ _ _ c.atom_at-kind.ensures.is c.in-Rec.is)
    c.push_recurrence.ensures

pub push_atom-returns-in-Leaf : goal.push_atom-returns-in-Leaf
push_atom-returns-in-Leaf t c =
    hands_on c.push_value_name.result _ _ _ _
    (atom_told (shown c.args.names.now) c.args.headers.now _ _ _ _ _ c.atom_at-kind.ensures.is c.in-Leaf.is)
    c.push_value_name.ensures

-- ---- conversions

pub push_cast-width-requires : goal.push_cast-width-requires
push_cast-width-requires t c =
    let ids = c.args.parts.now in
    let within : 0 < length ids = omega (arith, c.requires.one) in
    tree_among c.args.arena.now ids 0 (record { 0 = 0 }) (id_at ids 0) c.requires.trees within refl

pub push_cast-push_expr-requires : goal.push_cast-push_expr-requires
push_cast-push_expr-requires t c =
    let ids = c.args.parts.now in
    let within : 0 < length ids = omega (arith, c.requires.one) in
    let less = below_among c.args.below ids 0 (record { 0 = 0 }) (id_at ids 0) c.requires.below within refl in (
      omega (arith, c.decreases, less),
      tree_among c.args.arena.now ids 0 (record { 0 = 0 }) (id_at ids 0) c.requires.trees within refl,
    )

pub push_cast-returns : goal.push_cast-returns
push_cast-returns t c =
    let ids = c.args.parts.now in
    let told = cast_told (shown c.args.names.now) c.args.headers.now c.args.arena.now c.args.word.now
    c.width.result.bits c.args.w.bits (record { 0 = 0 }) (id_at ids 0) ids c.requires.one refl c.width.ensures.width in
    cast_written c.args.out.now.items _ _ _ _ _ _ _ _ _ _ _ _ c.in_ok-push.ensures.items
    c.in_ok-extend_from_slice.ensures.items c.in_ok-push_integer_type.ensures c.in_ok-push-2.ensures.items
    c.in_ok-push_expr.ensures c.in_ok-extend_from_slice-2.ensures.items c.in_ok-push_integer_type-2.ensures
    c.in_ok-push-3.ensures.items
    ∙ ap (λ xs. c.args.out.now.items ++ xs) told

pub push_enclosed-returns : goal.push_enclosed-returns
push_enclosed-returns t c =
    let ids = c.args.parts.now in
    let texts = parts_texts (shown c.args.names.now) c.args.headers.now
    (parts_of (map (tree_of c.args.arena.now) ids)) in
    let many : 1 < length texts =
    omega (arith, parts_many (shown c.args.names.now) c.args.headers.now c.args.arena.now ids, c.requires.several) in
    enclosed_listed c.args.between.now c.args.out.now.items _ _ _ texts many
    c.in_ok-push.ensures.items c.in_ok-push_parts.ensures c.in_ok-push-2.ensures.items

-- ---- factors

pub push_factors-push_atom-requires : goal.push_factors-push_atom-requires
push_factors-push_atom-requires t c =
    (omega (arith, c.decreases, c.requires.first_below), (c.args.w.bits, c.requires.first))

pub push_factors-push_atom-requires-2 : goal.push_factors-push_atom-requires-2
push_factors-push_atom-requires-2 t c =
    (omega (arith, c.decreases, c.requires.first_below), (c.args.w.bits, c.requires.first))

pub push_factors-push_further_factors-requires : goal.push_factors-push_further_factors-requires
push_factors-push_further_factors-requires t c = (omega (arith, c.decreases), (c.requires.atoms, c.requires.below))

pub push_factors-returns-then-is_empty : goal.push_factors-returns-then-is_empty
push_factors-returns-then-is_empty t c =
    let many = factors_many (shown c.args.names.now) c.args.headers.now (meanings c.args.arena.now) c.args.others.now in
    hands_on c.push_atom.result _ _ _ _
    (sym (enclosed-one (codes " * ") _ _ (many ∙ is_none _ _ c.is_empty.ensures c.if-is_empty.true)))
    c.push_atom.ensures

pub push_factors-returns : goal.push_factors-returns
push_factors-returns t c =
    let many = factors_many (shown c.args.names.now) c.args.headers.now (meanings c.args.arena.now) c.args.others.now in
    let some : 1 ≤ length c.args.others.now = is_some _ _ c.is_empty.ensures c.if-is_empty.false in
    enclosed_all (codes " * ") c.args.out.now.items _ _ _ _ _ _ (omega (arith, many, some)) c.in_ok-push.ensures.items
    c.in_ok-push_atom.ensures c.in_ok-push_further_factors.ensures c.in_ok-push-2.ensures.items

-- ---- monomials

pub push_monomial-returns-in_default : goal.push_monomial-returns-in_default
push_monomial-returns-in_default t c =
    let ids = c.as_slice-ids.ensures in
    let many = factors_many (shown c.args.names.now) c.args.headers.now (meanings c.args.arena.now)
    c.args.term.now.ids in
    hands_on c.push_constant.result _ _ _ _
    (monomial-none c.args.w.bits c.args.term.now.coefficient _
    (many ∙ ap length (sym ids) ∙ c.in_default.ensures.cases))
    c.push_constant.ensures

pub push_monomial-push_factors-requires : goal.push_monomial-push_factors-requires
push_monomial-push_factors-requires t c =
    let split = sym c.as_slice-ids.ensures ∙ c.in-Some.ensures.cases.0 in
    let atoms = subst (AreAtoms c.args.arena.now c.args.w.bits) split c.requires.atoms in
    let below = subst (AreBelow c.args.below) split c.requires.below in
    (omega (arith, c.decreases), (atoms.0, (below.0, (atoms.1, below.1))))

pub push_monomial-returns-then-term-eq1 : goal.push_monomial-returns-then-term-eq1
push_monomial-returns-then-term-eq1 t c =
    let split = sym c.as_slice-ids.ensures ∙ c.in-Some.ensures.cases.0 in
    hands_on c.push_factors.result _ _ _ _
    (monomial-plain c.args.w.bits c.args.term.now.coefficient _ _ _
    (factors_first (shown c.args.names.now) c.args.headers.now (meanings c.args.arena.now) _ _ _ split)
    c.if-term-eq1.true)
    c.push_factors.ensures

pub push_monomial-push_further_factors-requires : goal.push_monomial-push_further_factors-requires
push_monomial-push_further_factors-requires t c =
    let ids = sym c.as_slice-ids.ensures in (
      omega (arith, c.decreases),
      (
        subst (AreAtoms c.args.arena.now c.args.w.bits) ids c.requires.atoms,
        subst (AreBelow c.args.below) ids c.requires.below,
      ),
    )

pub push_monomial-returns : goal.push_monomial-returns
push_monomial-returns t c =
    let w = c.args.w.bits in
    let n = c.args.term.now.coefficient in
    let shown = shown c.args.names.now in
    let headers = c.args.headers.now in
    let meant = meanings c.args.arena.now in
    let ids = c.as_slice-ids.result.now in
    let texts = factors_texts shown headers (factors_at meant ids) in
    let some : 1 ≤ length texts =
    omega (arith, factors_many shown headers meant ids, ap length c.in-Some.ensures.cases.0) in
    enclosed_all (codes " * ") c.args.out.now.items _ _ _ _ _ texts some c.in_ok-push.ensures.items
    c.in_ok-push_constant.ensures c.in_ok-push_further_factors.ensures c.in_ok-push-2.ensures.items
    ∙ ap (λ xs. c.args.out.now.items ++ xs)
    (monomial-many w n texts some c.if-term-eq1.false
    ∙ ap (λ (xs : List ExprId). monomial_text w n (factors_texts shown headers (factors_at meant xs)))
    c.as_slice-ids.ensures)

-- ---- expressions

pub push_expr-returns-in_default : goal.push_expr-returns-in_default
push_expr-returns-in_default t c =
    hands_on c.push_constant.result _ _ _ _
    (sum_none (shown c.args.names.now) c.args.headers.now (meanings c.args.arena.now) _ _ _ c.tree_at.ensures.tree
    c.in_default.ensures.cases)
    c.push_constant.ensures

pub push_expr-push_monomial-requires : goal.push_expr-push_monomial-requires
push_expr-push_monomial-requires t c =
    let split = c.in-Some.ensures.cases.0 in
    let over = subst (AreOverAtoms c.args.arena.now c.tree_at.result.0.bits) split c.tree_at.ensures.over in
    let below = subst (AreOverBelow c.args.id.0) split c.tree_at.ensures.below in
    (omega (arith, c.decreases), (over.0, below.0))

pub push_expr-push_monomial-requires-2 : goal.push_expr-push_monomial-requires-2
push_expr-push_monomial-requires-2 t c =
    let split = c.in-Some.ensures.cases.0 in
    let over = subst (AreOverAtoms c.args.arena.now c.tree_at.result.0.bits) split c.tree_at.ensures.over in
    let below = subst (AreOverBelow c.args.id.0) split c.tree_at.ensures.below in
    (omega (arith, c.decreases), (over.0, below.0))

pub push_expr-push_further_monomials-requires : goal.push_expr-push_further_monomials-requires
push_expr-push_further_monomials-requires t c =
    let split = c.in-Some.ensures.cases.0 in
    let over = subst (AreOverAtoms c.args.arena.now c.tree_at.result.0.bits) split c.tree_at.ensures.over in
    let below = subst (AreOverBelow c.args.id.0) split c.tree_at.ensures.below in
    (omega (arith, c.decreases), (over.1, below.1))

pub push_expr-returns-then-is_empty : goal.push_expr-returns-then-is_empty
push_expr-returns-then-is_empty t c =
    hands_on c.push_monomial.result _ _ _ _
    (sum_one (shown c.args.names.now) c.args.headers.now (meanings c.args.arena.now) _ _ _ _ _ c.tree_at.ensures.tree
    c.in-Some.ensures.cases.0 (is_none _ _ c.is_empty.ensures c.if-is_empty.true))
    c.push_monomial.ensures

pub push_expr-returns : goal.push_expr-returns
push_expr-returns t c =
    let shown = shown c.args.names.now in
    let headers = c.args.headers.now in
    let meant = meanings c.args.arena.now in
    let many = terms_many shown headers meant c.tree_at.result.0.bits c.in-Some.others.now in
    let some : 1 ≤ length c.in-Some.others.now = is_some _ _ c.is_empty.ensures c.if-is_empty.false in
    enclosed_all (codes " + ") c.args.out.now.items _ _ _ _ _ _ (omega (arith, many, some)) c.in_ok-push.ensures.items
    c.in_ok-push_monomial.ensures c.in_ok-push_further_monomials.ensures c.in_ok-push-2.ensures.items
    ∙ ap (λ xs. c.args.out.now.items ++ xs)
    (sum_some shown headers meant _ _ _ _ _ c.tree_at.ensures.tree c.in-Some.ensures.cases.0)
