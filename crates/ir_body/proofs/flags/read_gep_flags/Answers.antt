use Rattle.std.proofs.Common.{true, refl, sym, codes}
use Rattle.ir_body.proofs.WordsFirst.{gep_first, no_gep_first}
use Rattle.ir_body.proofs.flags.read_gep_flags.Goals as goal

pub returns-then-starts_keyword-clause-value : goal.returns-then-starts_keyword-clause-value
returns-then-starts_keyword-clause-value c =
    gep_first c.args.tokens.now c.args.from (codes "inbounds") (codes "nuw") (codes "nusw") _ _ true refl refl
    (λ found is. refl) (sym c.if-starts_keyword.ensures.value) c.pair-at.ensures.value

pub returns-then-starts_keyword-2-clause-value : goal.returns-then-starts_keyword-2-clause-value
returns-then-starts_keyword-2-clause-value c =
    gep_first c.args.tokens.now c.args.from (codes "nuw") (codes "inbounds") (codes "nusw") _ _
    c.pair-at-then-starts_keyword-2.result.0.0
    refl refl (λ found is. is) (sym c.if-starts_keyword-2.ensures.value) c.pair-at-then-starts_keyword-2.ensures.value

pub returns-then-starts_keyword-3-clause-value : goal.returns-then-starts_keyword-3-clause-value
returns-then-starts_keyword-3-clause-value c =
    gep_first c.args.tokens.now c.args.from (codes "nusw") (codes "inbounds") (codes "nuw") _ _
    c.pair-at-then-starts_keyword-3.result.0.0
    refl refl (λ found is. is) (sym c.if-starts_keyword-3.ensures.value) c.pair-at-then-starts_keyword-3.ensures.value

pub returns-clause-value : goal.returns-clause-value
returns-clause-value c =
    no_gep_first c.args.tokens.now c.args.from (sym c.if-starts_keyword.ensures.value)
    (sym c.if-starts_keyword-2.ensures.value) (sym c.if-starts_keyword-3.ensures.value)
