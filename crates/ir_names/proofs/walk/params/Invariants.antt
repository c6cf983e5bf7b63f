use Rattle.std.proofs.Common.{length}
use Rattle.ir_text.specs.Sites.{bare_param}
use Rattle.ir_names.specs.Parts.{param_sites}
use Rattle.ir_names.proofs.Walking.{Walked}
use Rattle.ir_names.proofs.walk.params.Given as goal

abbrev pub invariant-loop-next : goal.invariant-loop-next
invariant-loop-next l = Walked param_sites bare_param l.spoken l.fn.seen l.seen l.fn.params l.rest l.params

abbrev pub decreases-loop-next : goal.decreases-loop-next
decreases-loop-next l = length l.rest
