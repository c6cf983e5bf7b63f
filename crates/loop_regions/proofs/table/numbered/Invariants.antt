use Rattle.std.proofs.Common.{◌≡◌, length, take}
use Rattle.loop_regions.specs.Table.{AreNumbered}
use Rattle.loop_regions.proofs.table.numbered.Given as goal

abbrev pub invariant-loop-number : goal.invariant-loop-number
invariant-loop-number l = (length l.innermost.items ≡ l.labels) × AreNumbered (take l.number l.headers) l.innermost.items
