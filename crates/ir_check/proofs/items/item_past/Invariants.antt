use Rattle.std.proofs.Common.{◌≡◌, drop, slice_get}
use Rattle.ir_rules.specs.Items.{items_past}
use Rattle.ir_check.proofs.items.item_past.Given as goal

abbrev pub invariant-loop-at : goal.invariant-loop-at
invariant-loop-at l = slice_get (items_past l.functions l.at (drop l.at l.items)) 0
    ≡ slice_get (items_past 0 0 l.items) 0
