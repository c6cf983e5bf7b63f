use Rattle.std.proofs.Common.{◌≡◌, drop, slice_get}
use Rattle.ir_rules.specs.Items.{items_where}
use Rattle.ir_check.specs.Items.{breaks_item}
use Rattle.ir_check.proofs.items.breaking_item.Given as goal

abbrev pub invariant-loop-at : goal.invariant-loop-at
invariant-loop-at l = slice_get (items_where (breaks_item l.rule) l.at (drop l.at l.items)) 0
    ≡ slice_get (items_where (breaks_item l.rule) 0 l.items) 0
