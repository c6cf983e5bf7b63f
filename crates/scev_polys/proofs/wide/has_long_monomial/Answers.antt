use Rattle.std.proofs.Common.{◌+◌, ◌||◌, nat_lt, length, drop, sym, ap, ◌∙◌, arith}
use Rattle.std.proofs.lemmas.Bool.{or_left, lt-ltb, le-ltb}
use Rattle.scev_base.specs.declared.limits.TheConstants.{FACTORS}
use Rattle.poly_terms.proofs.ProductLemmas.{drop_at}
use Rattle.scev_arena.specs.Meaning.{terms_at}
use Rattle.scev_arena.specs.Limits.{has_long_monomial}
use Rattle.scev_arena.proofs.NodesMeasured.{as_many_factors}
use Rattle.scev_polys.proofs.wide.has_long_monomial.Goals as goal

pub loop-term-preserved : goal.loop-term-preserved
loop-term-preserved c meant =
    let t = c.term-item.result in
    let rest = drop_at c.args.terms.now c.loop-term.term-index t c.loop-term-test.true c.term-item.is in
    let ids = t.ids in
    let few = ap (nat_lt FACTORS) (as_many_factors meant ids)
    ∙ le-ltb FACTORS (length ids) (omega (arith, c.len-factors.ensures, c.if-factors-gt-FACTORS.false)) in
    c.loop-term.invariant meant
    ∙ ap (λ l. has_long_monomial (terms_at meant l)) rest
    ∙ ap (λ b. b || has_long_monomial (terms_at meant (drop (c.loop-term.term-index + 1) c.args.terms.now))) few

pub returns-then-factors-gt-FACTORS : goal.returns-then-factors-gt-FACTORS
returns-then-factors-gt-FACTORS c meant =
    let t = c.term-item.result in
    let rest = drop_at c.args.terms.now c.loop-term.term-index t c.loop-term-test.true c.term-item.is in
    let ids = t.ids in
    let many = ap (nat_lt FACTORS) (as_many_factors meant ids)
    ∙ lt-ltb FACTORS (length ids) (omega (arith, c.len-factors.ensures, c.if-factors-gt-FACTORS.true)) in
    sym (
    c.loop-term.invariant meant
    ∙ ap (λ l. has_long_monomial (terms_at meant l)) rest
    ∙ or_left _ _ many
    )
