use Rattle.std.proofs.Common.{◌≡◌, drop, slice_get}
use Rattle.ir_check.specs.Items.{duplicates}
use Rattle.ir_check.proofs.ItemWalks.{duplicates_behind}
use Rattle.ir_check.proofs.items.duplicate_item.Given as goal

abbrev pub invariant-loop-at : goal.invariant-loop-at
invariant-loop-at l = slice_get (duplicates_behind l.names.keys l.at (drop l.at l.items)) 0
    ≡ slice_get (duplicates l.items) 0
