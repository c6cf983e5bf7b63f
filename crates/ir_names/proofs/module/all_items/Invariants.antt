use Rattle.std.proofs.Common.{length}
use Rattle.ir_names.proofs.ItemsAreNumbered.{WalkedItems}
use Rattle.ir_names.proofs.module.all_items.Given as goal

abbrev pub invariant-loop-next : goal.invariant-loop-next
invariant-loop-next l = WalkedItems l.spoken l.fn.globals l.globals l.fn.items l.rest l.items

abbrev pub decreases-loop-next : goal.decreases-loop-next
decreases-loop-next l = length l.rest
