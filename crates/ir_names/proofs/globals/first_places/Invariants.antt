use Rattle.std.proofs.Common.{take}
use Rattle.ir_names.specs.Firsts.{AreFirstPlaces}
use Rattle.ir_names.proofs.globals.first_places.Given as goal

abbrev pub invariant-loop-at : goal.invariant-loop-at
invariant-loop-at l = AreFirstPlaces l.places (take l.at l.names)
