use Rattle.std.proofs.Common.{subst}
use Rattle.std.proofs.lemmas.Result.{err_from_is_err_and}
use Rattle.ir_parts.specs.Reading.{ReadsAs}
use Rattle.ir_parts.specs.Places.{mentions_at}
use Rattle.ir_functions.specs.declared.arguments.Argument.{Argument}
use Rattle.ir_functions.specs.ArgumentViews.{bare_argument, argument_sites}
use Rattle.ir_functions.proofs.ArgumentAt.{behind_type_is, behind_type_refused}
use Rattle.ir_functions.proofs.arguments.behind_type.Goals as goal

pub returns-in_err-said-clause-value : goal.returns-in_err-said-clause-value
returns-in_err-said-clause-value c =
    let p = err_from_is_err_and c.from_residual.result c.from_residual.ensures.1 in
    rw (p.1, p.2) (behind_type_refused c.args.tokens.now c.args.from c.in_err-said.field-0.0 c.args.kind
    c.in_err-said.ensures.value)

pub returns-clause-value : goal.returns-clause-value
returns-clause-value c =
    subst (λ r. ReadsAs {X = Argument} (λ arg. (bare_argument arg, mentions_at c.args.tokens.now (argument_sites arg)))
    c.args.tokens.now c.behind_run.result r)
    (behind_type_is c.args.tokens.now c.args.from c.in_ok-said.end c.in_ok-said.said c.args.kind
    c.in_ok-said.ensures.forth.0 c.in_ok-said.ensures.forth.1 c.in_ok-said.ensures.value)
    c.behind_run.ensures.value
