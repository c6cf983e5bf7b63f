use Rattle.std.proofs.Common.{refl}
use Rattle.ir_names.proofs.Passing.{both}
use Rattle.ir_names.proofs.ops.select.Goals as goal

pub returns : goal.returns
returns c =
    record {
      becomes = both c.in_ok-cond.ensures.becomes
          (both c.in_ok-typed_in.ensures.becomes c.in_ok-typed_in-2.ensures.becomes);
      same = rw (c.in_ok-cond.ensures.same, c.in_ok-typed_in.ensures.same, c.in_ok-typed_in-2.ensures.same) refl;
    }
