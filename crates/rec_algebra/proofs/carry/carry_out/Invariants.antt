use Rattle.std.proofs.Common.{◌≡◌, length, map, take, get_or}
use Rattle.rec_algebra.proofs.carry.carry_out.Given as goal

abbrev pub invariant-loop-place : goal.invariant-loop-place
invariant-loop-place g l = record {
  count : length l.results.items ≡ l.place-index;
  picked : (default : g.row.R-Item.Denot) → l.results.items ≡ map (λ place. get_or l.items.items place default) (take l.place-index l.plan.results);
}
