use Rattle.std.proofs.Common.{◌≡◌, ◌-◌, ◌*◌, ◌%◌, ◌^◌, ◌≤◌, min}
use Rattle.scev_base.proofs.residue.inverse_odd.Given as goal

abbrev pub invariant-loop-right : goal.invariant-loop-right
invariant-loop-right l = record {
  started : 3 ≤ l.right;
  inverse : l.n * l.inverse % 2 ^ min l.right 64 ≡ 1;
}

abbrev pub decreases-loop-right : goal.decreases-loop-right
decreases-loop-right l = 64 - l.right
