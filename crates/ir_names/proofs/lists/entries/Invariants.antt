use Rattle.std.proofs.Common.{length}
use Rattle.ir_model.specs.Sites.{entry_sites}
use Rattle.ir_text.specs.Sites.{bare_entry}
use Rattle.ir_names.proofs.Walking.{Walked}
use Rattle.ir_names.proofs.lists.entries.Given as goal

abbrev pub invariant-loop-next : goal.invariant-loop-next
invariant-loop-next l = Walked entry_sites bare_entry l.spoken l.fn.seen l.seen l.fn.entries l.rest l.entries

abbrev pub decreases-loop-next : goal.decreases-loop-next
decreases-loop-next l = length l.rest
