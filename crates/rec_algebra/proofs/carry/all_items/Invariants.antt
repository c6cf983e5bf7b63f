use Rattle.std.proofs.Common.{◌≡◌, ◌+◌, All, length, drop}
use Rattle.rec_algebra.specs.Plans.{place_items}
use Rattle.rec_algebra.proofs.carry.all_items.Given as goal

abbrev pub invariant-loop-step : goal.invariant-loop-step
invariant-loop-step g l = record {
  count : length l.items.items ≡ l.plan.parts + l.step-index;
  admitted : All (g.R.Ring.admits l.r) l.items.items;
  still : (default : g.row.R-Item.Denot) → place_items (g.R.Ring.plus l.r) (g.R.Ring.times l.r) default l.parts l.plan.steps ≡ place_items (g.R.Ring.plus l.r) (g.R.Ring.times l.r) default l.items.items (drop l.step-index l.plan.steps);
}
