use Rattle.std.proofs.Common.{◌≡◌, true, take}
use Rattle.std.specs.List.{list_all}
use Rattle.ir_check.specs.Parts.{part_in_range}
use Rattle.ir_check.proofs.initialisers.+ranging.Given as goal

abbrev pub invariant-parts_in_range-loop-part : goal.invariant-parts_in_range-loop-part
invariant-parts_in_range-loop-part l = list_all part_in_range (take l.part-index l.parts) ≡ true
