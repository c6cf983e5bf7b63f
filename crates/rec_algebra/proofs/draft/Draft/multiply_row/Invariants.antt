use Rattle.std.proofs.Common.{◌≡◌, ◌+◌, ◌-◌, drop}
use Rattle.std.specs.List.{range_with_len}
use Rattle.rec_algebra.specs.Forming.{product_row}
use Rattle.rec_algebra.proofs.draft.Draft.multiply_row.Given as goal

abbrev pub invariant-loop-j : goal.invariant-loop-j
invariant-loop-j l = record {
  same_parts : l.self.parts ≡ l.initial.self.parts;
  steps : l.self.steps.items ≡ (product_row l.initial.self.parts l.initial.self.steps.items l.left (range_with_len (l.start + l.j) (l.count - l.j)) (drop l.j l.below.items)).steps;
  products : l.row.items ≡ (product_row l.initial.self.parts l.initial.self.steps.items l.left (range_with_len (l.start + l.j) (l.count - l.j)) (drop l.j l.below.items)).products;
}
