use Rattle.std.proofs.Common.{◌≡◌, take, length}
use Rattle.classify.specs.Places.{ArePlaces}
use Rattle.classify.proofs.places.result_places.Given as goal

abbrev pub invariant-loop-at : goal.invariant-loop-at
invariant-loop-at l = (length l.places.items ≡ length l.f.values) × ArePlaces (take l.at l.f.blocks) l.places.items
