use Rattle.std.proofs.Common.{take}
use Rattle.ir_check.specs.Firsts.{AreFirstPlaces}
use Rattle.ir_check.proofs.callees.Callees.of.Given as goal

abbrev pub invariant-loop-at : goal.invariant-loop-at
invariant-loop-at l = AreFirstPlaces l.places (take l.at l.signatures.functions)
