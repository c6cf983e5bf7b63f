use Rattle.std.proofs.Common.{take}
use Rattle.classify.specs.Places.{ArePlaced}
use Rattle.classify.proofs.places.place_results.Given as goal

abbrev pub invariant-loop-at : goal.invariant-loop-at
invariant-loop-at l = ArePlaced l.block (take l.at l.instrs) l.initial.places l.places
