use Rattle.std.proofs.Common.{◌≡◌, take}
use Rattle.std.specs.List.{flat_map}
use Rattle.ir_grammar.specs.Numbering.{defined_by}
use Rattle.ir_names.proofs.module.defined_names.Given as goal

abbrev pub invariant-loop-item : goal.invariant-loop-item
invariant-loop-item l = l.names ≡ flat_map defined_by (take l.item-index l.items)
