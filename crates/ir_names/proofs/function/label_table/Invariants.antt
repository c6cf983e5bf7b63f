use Rattle.std.proofs.Common.{◌≡◌, map, take}
use Rattle.ir_names.proofs.KeyNames.{text_of_key}
use Rattle.ir_names.proofs.function.label_table.Given as goal

abbrev pub invariant-loop-key : goal.invariant-loop-key
invariant-loop-key l = l.table ≡ map text_of_key (take l.key-index l.names)
