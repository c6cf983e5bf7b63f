use Rattle.std.proofs.Common.{Some, sym, ◌∙◌}
use Rattle.std.proofs.lemmas.Result.{err_from_is_err_and}
use Rattle.ir_text.specs.Said.{said_global}
use Rattle.ir_parts.specs.Reading.{left_from}
use Rattle.ir_functions.specs.Calls.{callee_named}
use Rattle.ir_functions.proofs.CalleeAt.{further_read, further_fault, further_nothing}
use Rattle.ir_functions.proofs.calls.read_callee.Goals as goal

pub returns-in_err-name-clause-value : goal.returns-in_err-name-clause-value
returns-in_err-name-clause-value c =
    let p = err_from_is_err_and c.from_residual.result c.from_residual.ensures.1 in
    rw (p.1, p.2) (further_fault said_global (callee_named c.args.has_result) c.args.tokens.now
    c.args.from c.in_err-name.field-0.0 c.in_err-name.ensures.value)

pub returns-in-Some-clause-value : goal.returns-in-Some-clause-value
returns-in-Some-clause-value c =
    further_read said_global (callee_named c.args.has_result)
    (left_from c.args.tokens.now c.args.from) (left_from c.args.tokens.now c.in_ok-name.at) c.in_ok-name.name
    (Some c.in-Some.callee) c.in_ok-name.ensures.value (sym c.callee_named.ensures ∙ c.in-Some.is)

pub returns-in-None-clause-value : goal.returns-in-None-clause-value
returns-in-None-clause-value c =
    further_nothing said_global (callee_named c.args.has_result) c.args.tokens.now c.args.from
    (left_from c.args.tokens.now c.in_ok-name.at) c.in_ok-name.name c.requires c.in_ok-name.ensures.value
    (sym c.callee_named.ensures ∙ c.in-None.is)
