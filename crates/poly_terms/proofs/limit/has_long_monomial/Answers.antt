use Rattle.std.proofs.Common.{inl, inr, refl, sym, arith, subst}
use Rattle.std.proofs.lemmas.List.{drop_all}
use Rattle.poly_terms.specs.Terms.{HasLongMonomial}
use Rattle.poly_terms.proofs.ProductLemmas.{drop_at}
use Rattle.poly_terms.proofs.limit.has_long_monomial.Goals as goal

pub loop-term-preserved : goal.loop-term-preserved
loop-term-preserved c =
    let rest = drop_at c.args.terms.now c.loop-term.term-index c.term-item.result c.loop-term-test.true c.term-item.is in (
      λ all. elim (subst HasLongMonomial rest (c.loop-term.invariant.0 all)) [
        | inl here ↦ absurd (omega (arith, here, c.len-factors.ensures, c.if-factors-gt-FACTORS.false))
        | inr there ↦ there
      ],
      λ there. c.loop-term.invariant.1 (subst HasLongMonomial (sym rest) (inr there)),
    )

pub returns-then-factors-gt-FACTORS : goal.returns-then-factors-gt-FACTORS
returns-then-factors-gt-FACTORS c =
    let rest = drop_at c.args.terms.now c.loop-term.term-index c.term-item.result c.loop-term-test.true c.term-item.is in (
      λ _. c.loop-term.invariant.1 (subst HasLongMonomial (sym rest) (inl (omega (arith, c.len-factors.ensures, c.if-factors-gt-FACTORS.true)))),
      λ _. refl,
    )

pub returns : goal.returns
returns c = (
  λ no. absurd (cc no),
  λ all. absurd (subst HasLongMonomial (drop_all c.loop-term.term-index c.args.terms.now c.loop-term-test.false) (c.loop-term.invariant.0 all)),
)
