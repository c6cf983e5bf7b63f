use Rattle.std.proofs.Common.{◌≡◌, ◌-◌, drop}
use Rattle.rec_algebra.specs.Forming.{summed}
use Rattle.rec_algebra.proofs.draft.Draft.sum.Given as goal

abbrev pub invariant-loop-i : goal.invariant-loop-i
invariant-loop-i l = record {
  same_parts : l.self.parts ≡ l.initial.self.parts;
  still : summed l.initial.self.parts (record { steps = l.initial.self.steps.items; places = l.initial.places.items }) l.count l.first l.second l.third ≡ summed l.initial.self.parts (record { steps = l.self.steps.items; places = l.places.items }) (l.count - l.i) (drop l.i l.first) (drop l.i l.second) (drop l.i l.third);
}
