use Rattle.std.proofs.Common.{length}
use Rattle.ir_model.specs.Sites.{typed_sites}
use Rattle.ir_text.specs.Sites.{bare_typed}
use Rattle.ir_names.proofs.Walking.{Walked}
use Rattle.ir_names.proofs.lists.operands.Given as goal

abbrev pub invariant-loop-next : goal.invariant-loop-next
invariant-loop-next l = Walked typed_sites bare_typed l.spoken l.fn.seen l.seen l.fn.operands l.rest l.operands

abbrev pub decreases-loop-next : goal.decreases-loop-next
decreases-loop-next l = length l.rest
