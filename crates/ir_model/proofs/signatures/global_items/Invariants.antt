use Rattle.std.proofs.Common.{◌≡◌, ◌≤◌, take, count_by}
use Rattle.ir_model.specs.Places.{is_global}
use Rattle.ir_model.proofs.signatures.global_items.Given as goal

abbrev pub invariant-loop-item : goal.invariant-loop-item
invariant-loop-item l = (l.count ≡ count_by is_global (take l.item-index l.items)) × (l.count ≤ l.item-index)
