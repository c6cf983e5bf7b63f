use Rattle.std.proofs.Common.{◌≡◌, true, take}
use Rattle.std.specs.List.{list_all}
use Rattle.ir_rules.specs.Items.{part_type}
use Rattle.ir_check.specs.Parts.{part_fits}
use Rattle.ir_check.proofs.initialisers.+fitting.Given as goal

abbrev pub invariant-are_of-loop-part : goal.invariant-are_of-loop-part
invariant-are_of-loop-part l =
    list_all (part_fits (part_type l.dims l.width)) (take l.part-index l.parts) ≡ true
