use Rattle.std.proofs.Common.{length}
use Rattle.ir_text.specs.Sites.{bare_case}
use Rattle.ir_names.specs.Parts.{case_sites}
use Rattle.ir_names.proofs.Walking.{Walked}
use Rattle.ir_names.proofs.lists.cases.Given as goal

abbrev pub invariant-loop-next : goal.invariant-loop-next
invariant-loop-next l = Walked case_sites bare_case l.spoken l.fn.seen l.seen l.fn.cases l.rest l.cases

abbrev pub decreases-loop-next : goal.decreases-loop-next
decreases-loop-next l = length l.rest
