use Rattle.std.proofs.Common.{codes}
use Rattle.ir_printer.proofs.Joined.{joined_all}
use Rattle.ir_printer.proofs.function.push_params.Goals as goal

pub returns : goal.returns
returns c =
    joined_all _ (codes ", ") _ _ _ _ _ _ _ c.in-Some.ensures.cases.0 c.in_ok-push_param.ensures c.loop-param.invariant
    c.loop-param-test.false
