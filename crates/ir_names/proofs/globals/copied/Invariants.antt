use Rattle.std.proofs.Common.{◌≡◌, map, take}
use Rattle.ir_names.proofs.FirstPlaces.{text}
use Rattle.ir_names.proofs.globals.copied.Given as goal

abbrev pub invariant-loop-name : goal.invariant-loop-name
invariant-loop-name l = l.copies ≡ map text (take l.name-index l.names)
