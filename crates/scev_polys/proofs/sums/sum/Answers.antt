use Rattle.std.proofs.Common.{◌≡◌, ◌⊎◌, ◌+◌, ◌%◌, ◌^◌, [], ◌∷◌, ◌++◌, length, inl, inr, sym, ap, ◌∙◌}
use Rattle.std.proofs.Common.{subst}
use Rattle.scev_tree.specs.Canonical.{AreCanonicalTerms}
use Rattle.poly_terms.proofs.WeightLemmas.{low_of_64}
use Rattle.scev_arena.specs.Meaning.{meanings, terms_at}
use Rattle.scev_arena.specs.Standing.{AreOverAtoms}
use Rattle.scev_forms.specs.Polynomials.{terms_sum}
use Rattle.scev_polys.specs.Polynomials.{term_or_none}
use Rattle.scev_forms.proofs.Polynomials.{terms_sum_canonical}
use Rattle.scev_polys.proofs.Turns.{IsMerging, IsLower, left_taken, right_taken, both_taken, merging_ends}
use Rattle.scev_polys.proofs.sums.sum.Goals as goal
use Rattle.scev_polys.proofs.sums.sum.Goals.{in_default, in_default-2, After-from_vec}

pub loop-s-preserved-in_ok-push-in-Less : goal.loop-s-preserved-in_ok-push-in-Less
loop-s-preserved-in_ok-push-in-Less c =
    let nodes = c.args.arena.now in
    let w = c.args.w.bits in
    let whole = terms_sum w (terms_at (meanings nodes) c.args.left.now) (terms_at (meanings nodes) c.args.right.now) in
    let two = c.in-Some-Some in
    let less : IsLower nodes w whole two.s.now.ids two.t.now.ids =
    subst (λ ids. IsLower nodes w whole ids two.t.now.ids) c.as_slice.ensures (
    subst (IsLower nodes w whole c.as_slice.result.now) c.as_slice-in-Some-Some.ensures c.in-Less.ensures
    ) in
    let items : c.push.new.self.items ≡ c.loop-s.merged.items ++ two.s.now ∷ [] = c.in_ok-push-in-Less.ensures.items
    ∙ ap (λ s. c.loop-s.merged.items ++ s ∷ []) c.in_ok-copy-in-Less.ensures in
    subst (λ l. IsMerging nodes w whole l two.ss.now c.loop-s.rights.now) (sym items) (
    left_taken nodes w whole c.loop-s.merged.items c.loop-s.lefts.now c.loop-s.rights.now two.ss.now two.ts.now
    two.s.now two.t.now two.ensures.cases.0 two.ensures'.cases.0 c.loop-s.invariant less
    )

pub loop-s-preserved-in_ok-push-in-Greater : goal.loop-s-preserved-in_ok-push-in-Greater
loop-s-preserved-in_ok-push-in-Greater c =
    let nodes = c.args.arena.now in
    let w = c.args.w.bits in
    let whole = terms_sum w (terms_at (meanings nodes) c.args.left.now) (terms_at (meanings nodes) c.args.right.now) in
    let two = c.in-Some-Some in
    let less : IsLower nodes w whole two.t.now.ids two.s.now.ids =
    subst (λ ids. IsLower nodes w whole ids two.s.now.ids) c.as_slice-in-Some-Some.ensures (
    subst (IsLower nodes w whole c.as_slice-in-Some-Some.result.now) c.as_slice.ensures c.in-Greater.ensures
    ) in
    let items : c.push-in-Greater.new.self.items ≡ c.loop-s.merged.items ++ two.t.now ∷ [] =
    c.in_ok-push-in-Greater.ensures.items
    ∙ ap (λ s. c.loop-s.merged.items ++ s ∷ []) c.in_ok-copy-in-Greater.ensures in
    subst (λ l. IsMerging nodes w whole l c.loop-s.lefts.now two.ts.now) (sym items) (
    right_taken nodes w whole c.loop-s.merged.items c.loop-s.lefts.now c.loop-s.rights.now two.ss.now two.ts.now
    two.s.now two.t.now two.ensures.cases.0 two.ensures'.cases.0 c.loop-s.invariant less
    )

pub loop-s-preserved : goal.loop-s-preserved
loop-s-preserved c =
    let nodes = c.args.arena.now in
    let w = c.args.w.bits in
    let whole = terms_sum w (terms_at (meanings nodes) c.args.left.now) (terms_at (meanings nodes) c.args.right.now) in
    let two = c.in-Some-Some in
    let s = two.s.now in
    let t = two.t.now in
    let same = sym c.as_slice.ensures ∙ c.in-Equal.ensures ∙ c.as_slice-in-Some-Some.ensures in
    let added = s.coefficient + t.coefficient in
    let next : c.push_term.new.terms.items ≡ c.loop-s.merged.items ++ term_or_none w s.ids (added % 2 ^ 64) =
    c.in_ok-push_term-in-Equal.ensures
    ∙ ap (λ ids. c.loop-s.merged.items ++ term_or_none w ids (added % 2 ^ 64)) c.as_slice-in-Equal.ensures in
    both_taken nodes w whole c.loop-s.merged.items c.loop-s.lefts.now c.loop-s.rights.now two.ss.now two.ts.now s t
    (added % 2 ^ 64) c.push_term.new.terms.items two.ensures.cases.0 two.ensures'.cases.0 c.loop-s.invariant same
    (low_of_64 added w c.args.w.at_most_64) next

-- What the result is.
items : (c : After-from_vec) → c.from_vec.result ≡ (c.loop-s.merged.items ++ c.loop-s.lefts.now) ++ c.loop-s.rights.now
items c =
    c.from_vec.ensures
    ∙ c.in_ok-extend-2.ensures
    ∙ ap (λ l. l ++ c.loop-s.rights.now) c.in_ok-extend.ensures

-- What holds of it.
ended : (c : After-from_vec)
    → let nodes = c.args.arena.now in AreOverAtoms nodes c.args.w.bits c.from_vec.result
    × (terms_at (meanings nodes) c.from_vec.result ≡ terms_sum c.args.w.bits
    (terms_at (meanings nodes) c.args.left.now) (terms_at (meanings nodes) c.args.right.now))
ended c =
    let nodes = c.args.arena.now in
    let w = c.args.w.bits in
    let whole = terms_sum w (terms_at (meanings nodes) c.args.left.now) (terms_at (meanings nodes) c.args.right.now) in
    let none = elim c.match-split_first.branch as (λ _.
    (length c.loop-s.lefts.now ≡ 0) ⊎ (length c.loop-s.rights.now ≡ 0)) [
      | in_default v ↦ inr v.in_default.ensures'.cases
      | in_default-2 v ↦ inl v.in_default.ensures.cases
    ] in
    subst (λ l. AreOverAtoms nodes w l × (terms_at (meanings nodes) l ≡ whole)) (sym (items c)) (
    merging_ends nodes w whole c.loop-s.merged.items c.loop-s.lefts.now c.loop-s.rights.now c.loop-s.invariant none
    )

pub returns-clause-sum : goal.returns-clause-sum
returns-clause-sum c = (ended c).1

pub returns-clause-polynomial : goal.returns-clause-polynomial
returns-clause-polynomial c =
    let meant = meanings c.args.arena.now in record {
      over = (ended c).0;
      canonical = subst (AreCanonicalTerms c.args.w.bits) (sym (ended c).1) (
          terms_sum_canonical c.args.w.bits (terms_at meant c.args.left.now) (terms_at meant c.args.right.now)
          c.requires.left.canonical c.requires.right.canonical
          );
    }
