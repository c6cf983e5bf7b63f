use Rattle.std.proofs.Common.{refl}
use Rattle.ir_names.proofs.Passing.{both}
use Rattle.ir_names.proofs.walk.block.Goals as goal

pub returns : goal.returns
returns c =
    record {
      becomes = both c.in_ok-block.ensures c.in_ok-instrs.ensures.becomes;
      same = rw (c.in_ok-instrs.ensures.same) refl;
    }
