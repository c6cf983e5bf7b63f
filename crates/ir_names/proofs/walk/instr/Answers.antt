use Rattle.std.proofs.Common.{refl}
use Rattle.ir_names.proofs.Passing.{both}
use Rattle.ir_names.proofs.walk.instr.Goals as goal

pub returns : goal.returns
returns c =
    record {
      becomes = both c.in_ok-instr.ensures.becomes c.in_ok-op.ensures.becomes;
      same = rw (c.in_ok-instr.ensures.same, c.in_ok-op.ensures.same) refl;
    }
