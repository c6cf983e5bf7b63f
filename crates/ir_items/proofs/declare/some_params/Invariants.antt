use Rattle.std.proofs.Common.{◌-◌, length}
use Rattle.ir_parts.proofs.ListLoops.{CommasRead}
use Rattle.ir_items.specs.DeclaredReading.{one_param_at}
use Rattle.ir_items.proofs.declare.some_params.Given as goal

abbrev pub invariant-params : goal.invariant-params
invariant-params l = CommasRead one_param_at l.tokens l.from l.at l.params

abbrev pub decreases-params : goal.decreases-params
decreases-params l = length l.tokens.tokens - l.at
