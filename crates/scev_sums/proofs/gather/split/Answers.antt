use Rattle.std.proofs.Common.{◌≡◌, ◌+◌, [], ◌∷◌, ◌++◌, drop, sym, ap, subst, ◌∙◌}
use Rattle.std.proofs.lemmas.List.{drop_all}
use Rattle.poly_terms.proofs.ProductLemmas.{drop_at}
use Rattle.scev_tree.specs.Canonical.{AreCanonicalTerms}
use Rattle.scev_arena.specs.Meaning.{meanings, terms_at, factors_at}
use Rattle.scev_arena.specs.Standing.{AreAtoms, AreOverAtoms}
use Rattle.scev_forms.proofs.Monomials.{joining_canonical, staying_canonical}
use Rattle.scev_forms.specs.Gather as forms
use Rattle.scev_walk.proofs.Among.{term_among}
use Rattle.scev_polys.proofs.AtPlaces.{over_both}
use Rattle.scev_sums.proofs.Reading.{joining_with, staying_with, joining_more, joining_without, staying_more}
use Rattle.scev_sums.proofs.Reading.{staying_without, joining_whole, staying_whole}
use Rattle.scev_sums.proofs.gather.split.Goals as goal
use Rattle.scev_sums.proofs.gather.split.Goals.{then-joins+in_ok-copy+in_ok-push, else-joins+in_ok-copy-2+in_ok-push-2}
use Rattle.scev_sums.proofs.gather.split.Goals.{After-loop-term}

pub joins-requires : goal.joins-requires
joins-requires c =
    let nodes = c.args.arena.now in
    let w = c.args.w.bits in
    let t = c.term-item.result in (
      w,
      subst (AreAtoms nodes w) (sym c.as_slice.ensures)
          (term_among nodes w c.args.terms.now c.loop-term.term-index t t c.requires.over c.loop-term-test.true
          c.term-item.is),
    )

pub loop-term-preserved : goal.loop-term-preserved
loop-term-preserved c =
    let nodes = c.args.arena.now in
    let meant = meanings nodes in
    let parents = c.args.nest.now in
    let l = c.args.l.0 in
    let w = c.args.w.bits in
    let at = c.loop-term.term-index in
    let t = c.term-item.result in
    let left = drop at c.args.terms.now in
    let rest = drop (at + 1) c.args.terms.now in
    let group = c.loop-term.group.items in
    let others = c.loop-term.others.items in
    let whole = c.loop-term.invariant in
    let e = drop_at c.args.terms.now at t c.loop-term-test.true c.term-item.is in
    let atoms = term_among nodes w c.args.terms.now at t t c.requires.over c.loop-term-test.true c.term-item.is in
    let said = ap (λ ids. forms.joins parents l (factors_at meant ids)) (sym c.as_slice.ensures) in
    elim c.if-joins.branch [
      | then-joins+in_ok-copy+in_ok-push v ↦
          let is = said ∙ sym v.if-joins.ensures in
          let pushed : c.if-joins.group.items ≡ group ++ t ∷ [] = ap (λ x. x.items) v.group-is
          ∙ v.in_ok-push.ensures.items ∙ ap (λ u. group ++ u ∷ []) v.in_ok-copy.ensures in
          let same : c.if-joins.others.items ≡ others = ap (λ x. x.items) v.others-is in record {
            group =
                ap (λ ts. joining_with meant parents l ts rest) pushed
                ∙ joining_more meant parents l group left rest t e is ∙ whole.group;
            others =
                ap (λ ts. staying_with meant parents l ts rest) same
                ∙ staying_without meant parents l others left rest t e is ∙ whole.others;
            group_over = subst (AreOverAtoms nodes w) (sym pushed)
                (over_both nodes w group (t ∷ []) whole.group_over (atoms, tt));
            others_over = subst (AreOverAtoms nodes w) (sym same) whole.others_over;
          }
      | else-joins+in_ok-copy-2+in_ok-push-2 v ↦
          let is = said ∙ sym v.if-joins.ensures in
          let pushed : c.if-joins.others.items ≡ others ++ t ∷ [] = ap (λ x. x.items) v.others-is
          ∙ v.in_ok-push-2.ensures.items ∙ ap (λ u. others ++ u ∷ []) v.in_ok-copy-2.ensures in
          let same : c.if-joins.group.items ≡ group = ap (λ x. x.items) v.group-is in record {
            group =
                ap (λ ts. joining_with meant parents l ts rest) same
                ∙ joining_without meant parents l group left rest t e is ∙ whole.group;
            others =
                ap (λ ts. staying_with meant parents l ts rest) pushed
                ∙ staying_more meant parents l others left rest t e is ∙ whole.others;
            group_over = subst (AreOverAtoms nodes w) (sym same) whole.group_over;
            others_over = subst (AreOverAtoms nodes w) (sym pushed)
                (over_both nodes w others (t ∷ []) whole.others_over (atoms, tt));
          }
    ]

whole_group : (c : After-loop-term) → terms_at (meanings c.args.arena.now) c.loop-term.group.items
    ≡ forms.joining c.args.nest.now c.args.l.0 (terms_at (meanings c.args.arena.now) c.args.terms.now)
whole_group c =
    joining_whole (meanings c.args.arena.now) c.args.nest.now c.args.l.0 c.loop-term.group.items
    (drop c.loop-term.term-index c.args.terms.now)
    (drop_all c.loop-term.term-index c.args.terms.now c.loop-term-test.false)
    ∙ c.loop-term.invariant.group

whole_others : (c : After-loop-term) → terms_at (meanings c.args.arena.now) c.loop-term.others.items
    ≡ forms.staying c.args.nest.now c.args.l.0 (terms_at (meanings c.args.arena.now) c.args.terms.now)
whole_others c =
    staying_whole (meanings c.args.arena.now) c.args.nest.now c.args.l.0 c.loop-term.others.items
    (drop c.loop-term.term-index c.args.terms.now)
    (drop_all c.loop-term.term-index c.args.terms.now c.loop-term-test.false)
    ∙ c.loop-term.invariant.others

pub returns-clause-group : goal.returns-clause-group
returns-clause-group c = whole_group c

pub returns-clause-others : goal.returns-clause-others
returns-clause-others c = whole_others c

pub returns-clause-group_polynomial : goal.returns-clause-group_polynomial
returns-clause-group_polynomial c =
    let terms = terms_at (meanings c.args.arena.now) c.args.terms.now in record {
      over = c.loop-term.invariant.group_over;
      canonical = subst (AreCanonicalTerms c.args.w.bits) (sym (whole_group c))
          (joining_canonical c.args.nest.now c.args.w.bits c.args.l.0 terms c.requires.canonical);
    }

pub returns-clause-others_polynomial : goal.returns-clause-others_polynomial
returns-clause-others_polynomial c =
    let terms = terms_at (meanings c.args.arena.now) c.args.terms.now in record {
      over = c.loop-term.invariant.others_over;
      canonical = subst (AreCanonicalTerms c.args.w.bits) (sym (whole_others c))
          (staying_canonical c.args.nest.now c.args.w.bits c.args.l.0 terms c.requires.canonical);
    }
