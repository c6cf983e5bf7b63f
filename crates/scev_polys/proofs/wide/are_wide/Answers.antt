use Rattle.std.proofs.Common.{◌||◌, nat_lt, length, sym, ap, ◌∙◌}
use Rattle.std.proofs.lemmas.Bool.{or_left, lt-ltb, le-ltb}
use Rattle.scev_base.specs.declared.limits.TheConstants.{MONOMIALS}
use Rattle.scev_arena.specs.Meaning.{meanings, terms_at}
use Rattle.scev_arena.specs.Limits.{has_long_monomial}
use Rattle.scev_arena.proofs.NodesMeasured.{as_many_terms}
use Rattle.scev_polys.proofs.wide.are_wide.Goals as goal

pub returns-then-terms-gt-MONOMIALS : goal.returns-then-terms-gt-MONOMIALS
returns-then-terms-gt-MONOMIALS c =
    let meant = meanings c.args.arena.now in
    let many = lt-ltb MONOMIALS (length c.args.terms.now) c.if-terms-gt-MONOMIALS.true in
    many ∙ sym (or_left _ _ (ap (nat_lt MONOMIALS) (as_many_terms meant c.args.terms.now) ∙ many))

pub returns-else-terms-gt-MONOMIALS : goal.returns-else-terms-gt-MONOMIALS
returns-else-terms-gt-MONOMIALS c =
    let meant = meanings c.args.arena.now in
    let few = le-ltb MONOMIALS (length c.args.terms.now) c.if-terms-gt-MONOMIALS.false in
    c.has_long_monomial.ensures meant
    ∙ sym (ap (λ b. b || has_long_monomial (terms_at meant c.args.terms.now))
    (ap (nat_lt MONOMIALS) (as_many_terms meant c.args.terms.now) ∙ few))
