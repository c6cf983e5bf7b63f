use Rattle.std.proofs.Common.{◌≡◌, drop, slice_get}
use Rattle.ir_rules.specs.Types.{bad_params}
use Rattle.ir_check.proofs.widths.bad_param.Given as goal

abbrev pub invariant-loop-param : goal.invariant-loop-param
invariant-loop-param l = slice_get (bad_params (drop l.param-index l.params)) 0 ≡ slice_get (bad_params l.params) 0
