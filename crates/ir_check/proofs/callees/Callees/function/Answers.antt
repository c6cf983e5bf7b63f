use Rattle.std.proofs.Common.{None, Some, ◌∙◌}
use Rattle.ir_check.proofs.Names.{function_at}
use Rattle.ir_check.proofs.callees.Callees.function.Goals as goal

pub returns-in_err-place : goal.returns-in_err-place
returns-in_err-place c =
    let inside = c.self.inside in
    rw (← c.self.view_is, c.from_residual.ensures)
    (function_at inside.places inside.signatures.now.functions c.args.name.now None c.self.invariant
    c.in_err-place.ensures.value)

pub returns : goal.returns
returns c =
    let inside = c.self.inside in
    rw (← c.self.view_is) (c.get-2.ensures.value
    ∙ function_at inside.places inside.signatures.now.functions c.args.name.now (Some c.in_ok-place.place.now)
    c.self.invariant c.in_ok-place.ensures.value)
