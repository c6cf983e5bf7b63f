use Rattle.std.proofs.Common.{refl}
use Rattle.ir_names.proofs.Passing.{both}
use Rattle.ir_names.proofs.operands.entry.Goals as goal

pub returns : goal.returns
returns c =
    record {
      becomes = both c.in_ok-value.ensures.becomes c.in_ok-from.ensures;
      same = rw (c.in_ok-value.ensures.same) refl;
    }
