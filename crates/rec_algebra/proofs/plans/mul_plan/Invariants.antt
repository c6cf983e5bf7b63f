use Rattle.std.proofs.Common.{◌≡◌, ◌+◌, ◌-◌}
use Rattle.std.specs.List.{range_with_len}
use Rattle.rec_algebra.specs.Forming.{product_table}
use Rattle.rec_algebra.proofs.plans.mul_plan.Given as goal

abbrev pub invariant-loop-left : goal.invariant-loop-left
invariant-loop-left l = record {
  same_parts : l.draft.parts ≡ l.m + l.n;
  steps : l.draft.steps.items ≡ (product_table (l.m + l.n) (range_with_len l.left (l.m - l.left)) (range_with_len l.m l.n)).steps;
  products : l.row.items ≡ (product_table (l.m + l.n) (range_with_len l.left (l.m - l.left)) (range_with_len l.m l.n)).products;
}
