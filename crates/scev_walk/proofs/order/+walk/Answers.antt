use Rattle.std.proofs.Common.{◌≡◌, ◌+◌, ◌<◌, ℕ, List, length, get_or, map, Equal, refl, sym, subst, ◌∙◌, arith, add-one}
use Rattle.std.proofs.lemmas.Cmp.{ranked}
use Rattle.scev_base.specs.declared.ids.ExprId.{ExprId}
use Rattle.scev_tree.specs.Tree.{parts_of}
use Rattle.scev_tree.specs.Order.{count_parts, count_factors, parts_code, factors_code}
use Rattle.scev_arena.specs.Meaning.{meanings, tree_of, factors_at, terms_at}
use Rattle.scev_arena.specs.Standing.{AreAtoms}
use Rattle.scev_arena.proofs.NodesMeasured.{as_many_parts, as_many_terms, as_many_factors}
use Rattle.scev_walk.specs.Reading.{AreBelow}
use Rattle.scev_walk.proofs.Among.{tree_among, atom_among, term_among, ids_of}
use Rattle.scev_walk.proofs.Below.{below_among, over_below_among}
use Rattle.scev_walk.proofs.CodeOrder.{goes_on, ends_here}
use Rattle.scev_walk.proofs.TreeCodes.{count_decides, counts_decide, behind_count, monomials_decide}
use Rattle.scev_walk.proofs.TreeCodes.{coefficients_decide}
use Rattle.scev_walk.proofs.Walking.{one_tree_there, one_atom_there, factors_from, monomials_from, parts_from}
use Rattle.scev_walk.proofs.Walking.{same_monomials}
use Rattle.scev_walk.proofs.order.+walk.Goals as goal

-- the place that is looked at
abbrev id_at : List ExprId → ℕ → ExprId
id_at ids i = get_or ids i (record { 0 = 0 })

-- ---- trees and atoms

pub trees-returns-then-left-right : goal.trees-returns-then-left-right
trees-returns-then-left-right t c = one_tree_there c.args.arena.now c.args.left c.args.right c.if-left-right.true

pub atoms-returns-then-left-right : goal.atoms-returns-then-left-right
atoms-returns-then-left-right t c = one_atom_there c.args.arena.now c.args.left c.args.right c.if-left-right.true

-- ---- terms

pub polynomials-returns-in_default : goal.polynomials-returns-in_default
polynomials-returns-in_default t c w v =
    let meant = meanings c.args.arena.now in
    counts_decide w v (length c.args.left.now) (length c.args.right.now) (terms_at meant c.args.left.now)
    (terms_at meant c.args.right.now) c.cmp.result (as_many_terms meant c.args.left.now)
    (as_many_terms meant c.args.right.now) c.cmp.ensures c.in_default.not-Equal

pub polynomials-returns-in_default-each_monomial : goal.polynomials-returns-in_default-each_monomial
polynomials-returns-in_default-each_monomial t c w v =
    let meant = meanings c.args.arena.now in
    let long : length c.args.left.now ≡ length c.args.right.now =
    ranked (length c.args.left.now) (length c.args.right.now) Equal c.in-Equal.ensures in
    monomials_decide w v (terms_at meant c.args.left.now) (terms_at meant c.args.right.now) c.each_monomial.result
    (as_many_terms meant c.args.left.now ∙ long ∙ sym (as_many_terms meant c.args.right.now))
    c.each_monomial.ensures c.in_default-each_monomial.not-Equal

pub polynomials-returns-in-Equal-each_monomial : goal.polynomials-returns-in-Equal-each_monomial
polynomials-returns-in-Equal-each_monomial t c w v =
    let meant = meanings c.args.arena.now in
    let long : length c.args.left.now ≡ length c.args.right.now =
    ranked (length c.args.left.now) (length c.args.right.now) Equal c.in-Equal.ensures in
    coefficients_decide w v (terms_at meant c.args.left.now) (terms_at meant c.args.right.now)
    c.each_coefficient.result
    (as_many_terms meant c.args.left.now ∙ long ∙ sym (as_many_terms meant c.args.right.now))
    c.in-Equal-each_monomial.ensures (c.each_coefficient.ensures meant)

pub each_monomial-monomials-requires : goal.each_monomial-monomials-requires
each_monomial-monomials-requires t c =
    let nodes = c.args.arena.now in
    let i = c.loop-i.i in
    let s = c.index-left-i.result in
    let u = c.index-right-i.result in
    let left : i < length c.args.left.now = omega arith in
    let right : i < length c.args.right.now = omega (arith, c.requires.as_many) in
    let ids = ids_of c.as_slice-monomial.ensures c.index-left-i.is in
    let others = ids_of c.as_slice-other.ensures c.index-right-i.is in
    let w = c.requires.left.0 in
    let v = c.requires.right.0 in (
      omega (arith, c.decreases),
      (
        (
          w,
          subst (AreAtoms nodes w) (sym ids)
              (term_among nodes w c.args.left.now i s s c.requires.left.1 left c.index-left-i.is),
        ),
        (
          (
            v,
            subst (AreAtoms nodes v) (sym others)
                (term_among nodes v c.args.right.now i u u c.requires.right.1 right c.index-right-i.is),
          ),
          subst (AreBelow c.args.below) (sym ids)
              (over_below_among c.args.below c.args.left.now i s s c.requires.below left c.index-left-i.is),
        ),
      ),
    )

pub each_monomial-returns-in_default : goal.each_monomial-returns-in_default
each_monomial-returns-in_default t c =
    let meant = meanings c.args.arena.now in
    let s = c.index-left-i.result in
    let u = c.index-right-i.result in
    let left : c.loop-i.i < length c.args.left.now = omega arith in
    let right : c.loop-i.i < length c.args.right.now = omega (arith, c.requires.as_many) in
    ends_here _ _ _ _ c.monomials.result c.loop-i.invariant
    (monomials_from meant c.args.left.now c.args.right.now c.loop-i.i (c.loop-i.i + 1) s u (add-one c.loop-i.i) left
    right c.index-left-i.is c.index-right-i.is)
    (c.monomials.ensures
    ∙ same_monomials meant _ _ _ _ (ids_of c.as_slice-monomial.ensures c.index-left-i.is)
    (ids_of c.as_slice-other.ensures c.index-right-i.is))
    c.in_default.not-Equal

pub each_monomial-loop-i-preserved : goal.each_monomial-loop-i-preserved
each_monomial-loop-i-preserved t c =
    let meant = meanings c.args.arena.now in
    let s = c.index-left-i.result in
    let u = c.index-right-i.result in
    let left : c.loop-i.i < length c.args.left.now = omega arith in
    let right : c.loop-i.i < length c.args.right.now = omega (arith, c.requires.as_many) in
    goes_on _ _ _ _ c.loop-i.invariant
    (monomials_from meant c.args.left.now c.args.right.now c.loop-i.i (c.loop-i.i + 1) s u (add-one c.loop-i.i) left
    right c.index-left-i.is c.index-right-i.is)
    (sym c.in-Equal.is
    ∙ c.monomials.ensures
    ∙ same_monomials meant _ _ _ _ (ids_of c.as_slice-monomial.ensures c.index-left-i.is)
    (ids_of c.as_slice-other.ensures c.index-right-i.is))

-- ---- factors

pub monomials-returns-in_default : goal.monomials-returns-in_default
monomials-returns-in_default t c =
    let meant = meanings c.args.arena.now in
    count_decides (length c.args.left.now) (length c.args.right.now)
    (count_factors (factors_at meant c.args.left.now)) (count_factors (factors_at meant c.args.right.now))
    (factors_code (factors_at meant c.args.left.now)) (factors_code (factors_at meant c.args.right.now)) c.cmp.result
    (as_many_factors meant c.args.left.now) (as_many_factors meant c.args.right.now) c.cmp.ensures
    c.in_default.not-Equal

pub monomials-returns-in-Equal : goal.monomials-returns-in-Equal
monomials-returns-in-Equal t c =
    let meant = meanings c.args.arena.now in
    behind_count (length c.args.left.now) (length c.args.right.now)
    (count_factors (factors_at meant c.args.left.now)) (count_factors (factors_at meant c.args.right.now))
    (factors_code (factors_at meant c.args.left.now)) (factors_code (factors_at meant c.args.right.now))
    c.each_factor.result
    (as_many_factors meant c.args.left.now) (as_many_factors meant c.args.right.now) c.in-Equal.ensures
    c.each_factor.ensures

pub each_factor-atoms-requires : goal.each_factor-atoms-requires
each_factor-atoms-requires t c =
    let nodes = c.args.arena.now in
    let lefts = c.args.left.now in
    let rights = c.args.right.now in
    let i = c.loop-i.i in
    let left : i < length lefts = omega arith in
    let right : i < length rights = omega (arith, c.requires.as_many) in
    let w = c.requires.left.0 in
    let v = c.requires.right.0 in
    let less = below_among c.args.below lefts i (record { 0 = 0 }) (id_at lefts i) c.requires.below left refl in (
      omega (arith, c.decreases, less),
      (
        (w, atom_among nodes w lefts i (record { 0 = 0 }) (id_at lefts i) c.requires.left.1 left refl),
        ((v, atom_among nodes v rights i (record { 0 = 0 }) (id_at rights i) c.requires.right.1 right refl), less),
      ),
    )

pub each_factor-returns-in_default : goal.each_factor-returns-in_default
each_factor-returns-in_default t c =
    let lefts = c.args.left.now in
    let rights = c.args.right.now in
    let left : c.loop-i.i < length lefts = omega arith in
    let right : c.loop-i.i < length rights = omega (arith, c.requires.as_many) in
    ends_here _ _ _ _ c.atoms.result c.loop-i.invariant
    (factors_from (meanings c.args.arena.now) lefts rights c.loop-i.i (c.loop-i.i + 1) (record { 0 = 0 })
    (add-one c.loop-i.i) left right) c.atoms.ensures c.in_default.not-Equal

pub each_factor-loop-i-preserved : goal.each_factor-loop-i-preserved
each_factor-loop-i-preserved t c =
    let lefts = c.args.left.now in
    let rights = c.args.right.now in
    let left : c.loop-i.i < length lefts = omega arith in
    let right : c.loop-i.i < length rights = omega (arith, c.requires.as_many) in
    goes_on _ _ _ _ c.loop-i.invariant
    (factors_from (meanings c.args.arena.now) lefts rights c.loop-i.i (c.loop-i.i + 1) (record { 0 = 0 })
    (add-one c.loop-i.i) left right) c.in-Equal.ensures

-- ---- parts

pub compare_parts-returns-in_default : goal.compare_parts-returns-in_default
compare_parts-returns-in_default t c =
    let nodes = c.args.arena.now in
    let parts = λ (ids : List ExprId). parts_of (map (tree_of nodes) ids) in
    count_decides (length c.args.left.now) (length c.args.right.now)
    (count_parts (parts c.args.left.now)) (count_parts (parts c.args.right.now))
    (parts_code (parts c.args.left.now)) (parts_code (parts c.args.right.now)) c.cmp.result
    (as_many_parts nodes c.args.left.now) (as_many_parts nodes c.args.right.now) c.cmp.ensures
    c.in_default.not-Equal

pub compare_parts-returns-in-Equal : goal.compare_parts-returns-in-Equal
compare_parts-returns-in-Equal t c =
    let nodes = c.args.arena.now in
    let parts = λ (ids : List ExprId). parts_of (map (tree_of nodes) ids) in
    behind_count (length c.args.left.now) (length c.args.right.now)
    (count_parts (parts c.args.left.now)) (count_parts (parts c.args.right.now))
    (parts_code (parts c.args.left.now)) (parts_code (parts c.args.right.now)) c.each_part.result
    (as_many_parts nodes c.args.left.now) (as_many_parts nodes c.args.right.now) c.in-Equal.ensures
    c.each_part.ensures

pub each_part-trees-requires : goal.each_part-trees-requires
each_part-trees-requires t c =
    let nodes = c.args.arena.now in
    let lefts = c.args.left.now in
    let rights = c.args.right.now in
    let i = c.loop-i.i in
    let left : i < length lefts = omega arith in
    let right : i < length rights = omega (arith, c.requires.as_many) in
    let less = below_among c.args.below lefts i (record { 0 = 0 }) (id_at lefts i) c.requires.below left refl in (
      omega (arith, c.decreases, less),
      (
        tree_among nodes lefts i (record { 0 = 0 }) (id_at lefts i) c.requires.left left refl,
        (tree_among nodes rights i (record { 0 = 0 }) (id_at rights i) c.requires.right right refl, less),
      ),
    )

pub each_part-returns-in_default : goal.each_part-returns-in_default
each_part-returns-in_default t c =
    let lefts = c.args.left.now in
    let rights = c.args.right.now in
    let left : c.loop-i.i < length lefts = omega arith in
    let right : c.loop-i.i < length rights = omega (arith, c.requires.as_many) in
    ends_here _ _ _ _ c.trees.result c.loop-i.invariant
    (parts_from c.args.arena.now lefts rights c.loop-i.i (c.loop-i.i + 1) (record { 0 = 0 })
    (add-one c.loop-i.i) left right) c.trees.ensures c.in_default.not-Equal

pub each_part-loop-i-preserved : goal.each_part-loop-i-preserved
each_part-loop-i-preserved t c =
    let lefts = c.args.left.now in
    let rights = c.args.right.now in
    let left : c.loop-i.i < length lefts = omega arith in
    let right : c.loop-i.i < length rights = omega (arith, c.requires.as_many) in
    goes_on _ _ _ _ c.loop-i.invariant
    (parts_from c.args.arena.now lefts rights c.loop-i.i (c.loop-i.i + 1) (record { 0 = 0 })
    (add-one c.loop-i.i) left right) c.in-Equal.ensures
