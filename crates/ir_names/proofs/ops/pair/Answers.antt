use Rattle.std.proofs.Common.{refl}
use Rattle.ir_names.proofs.Passing.{both}
use Rattle.ir_names.proofs.ops.pair.Goals as goal

pub returns : goal.returns
returns c =
    record {
      becomes = both c.in_ok-left.ensures.becomes c.in_ok-right.ensures.becomes;
      same = rw (c.in_ok-left.ensures.same, c.in_ok-right.ensures.same) refl;
    }
