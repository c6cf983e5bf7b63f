use Rattle.std.proofs.Common.{◌≡◌, take}
use Rattle.std.specs.List.{flat_map}
use Rattle.ir_model.specs.Places.{signature_of}
use Rattle.ir_model.proofs.signatures.function_signatures.Given as goal

abbrev pub invariant-loop-item : goal.invariant-loop-item
invariant-loop-item l = l.signatures ≡ flat_map signature_of (take l.item-index l.items)
