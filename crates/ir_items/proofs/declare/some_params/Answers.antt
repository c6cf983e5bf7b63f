use Rattle.std.proofs.Common.{List}
use Rattle.std.proofs.lemmas.Result.{err_from_is_err_and}
use Rattle.ir_model.specs.declared.item.DeclaredParam.{DeclaredParam}
use Rattle.ir_parts.proofs.ListLoops.{commas_first, commas_no_first, commas_more, commas_no_more, commas_end}
use Rattle.ir_items.specs.DeclaredReading.{one_param_at, some_params_at, next_param_at}
use Rattle.ir_items.proofs.declare.some_params.Goals as goal

abbrev one : DeclaredParam → DeclaredParam
one param = param

abbrev all : List DeclaredParam → List DeclaredParam
all params = params

pub returns-in_err-first-clause-value : goal.returns-in_err-first-clause-value
unfolding some_params_at
returns-in_err-first-clause-value c =
    let p = err_from_is_err_and c.from_residual.result c.from_residual.ensures.1 in
    rw (p.1, p.2) (commas_no_first one_param_at c.args.tokens.now c.args.from one all c.in_err-first.field-0.0
    c.in_err-first.ensures.value)

pub params-init : goal.params-init
params-init c =
    rw (c.in_ok-push.ensures.ok, c.new-params.ensures) (commas_first one_param_at c.args.tokens.now c.args.from
    c.in_ok-first.behind c.in_ok-first.first c.in_ok-first.ensures.value c.in_ok-first.ensures.forth)

pub returns-in_err-next-clause-value : goal.returns-in_err-next-clause-value
unfolding some_params_at next_param_at
returns-in_err-next-clause-value c =
    let p = err_from_is_err_and c.from_residual-in_err-next.result c.from_residual-in_err-next.ensures.1 in
    rw (p.1, p.2) (commas_no_more one_param_at c.args.tokens.now c.args.from one all c.in_err-next.field-0.0 c.params.at
    c.params.params c.params.invariant c.params-test.ensures.value c.in_err-next.ensures.value)

pub params-preserved : goal.params-preserved
unfolding next_param_at
params-preserved c =
    rw c.in_ok-push-2.ensures.ok (commas_more one_param_at c.args.tokens.now c.args.from c.params.at c.in_ok-next.behind
    c.params.params c.in_ok-next.next c.params.invariant c.params-test.ensures.value c.in_ok-next.ensures.value
    c.in_ok-next.ensures.forth)

pub returns-clause-value : goal.returns-clause-value
unfolding some_params_at
returns-clause-value c =
    commas_end one_param_at c.args.tokens.now c.args.from c.params.at c.params.params c.params.invariant
    c.params-test.ensures.value
