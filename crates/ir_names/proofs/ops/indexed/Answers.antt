use Rattle.std.proofs.Common.{refl}
use Rattle.ir_names.proofs.Passing.{both}
use Rattle.ir_names.proofs.ops.indexed.Goals as goal

pub returns : goal.returns
returns c =
    record {
      becomes = both c.in_ok-base.ensures.becomes c.in_ok-operands.ensures.becomes;
      same = rw (c.in_ok-base.ensures.same, c.in_ok-operands.ensures.same) refl;
    }
