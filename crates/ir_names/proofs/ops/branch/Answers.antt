use Rattle.std.proofs.Common.{refl}
use Rattle.ir_names.proofs.Passing.{both}
use Rattle.ir_names.proofs.ops.branch.Goals as goal

pub returns : goal.returns
returns c =
    record {
      becomes = both c.in_ok-cond.ensures.becomes
          (both c.in_ok-target.ensures.becomes c.in_ok-target-2.ensures.becomes);
      same = rw (c.in_ok-cond.ensures.same) refl;
    }
