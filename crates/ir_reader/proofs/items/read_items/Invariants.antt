use Rattle.std.proofs.Common.{◌-◌, length}
use Rattle.ir_reader.proofs.ItemsLoop.{ItemsSoFar}
use Rattle.ir_reader.proofs.items.read_items.Given as goal

abbrev pub invariant-items : goal.invariant-items
invariant-items l = ItemsSoFar l.tokens l.at l.items

abbrev pub decreases-items : goal.decreases-items
decreases-items l = length l.tokens.tokens - l.at
