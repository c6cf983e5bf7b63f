use Rattle.std.proofs.Common.{◌≤◌, ◌-◌, length, drop}
use Rattle.ir_items.proofs.LayoutFaults.{FaultsFrom}
use Rattle.ir_items.proofs.layout.layout_fault.Given as goal

abbrev pub invariant-specifications : goal.invariant-specifications
invariant-specifications l = record {
  within : l.from ≤ length l.text;
  faults : FaultsFrom l.text (drop l.from l.text) l.from;
}

abbrev pub decreases-specifications : goal.decreases-specifications
decreases-specifications l = length l.text - l.from
