use Rattle.std.proofs.Common.{refl}
use Rattle.ir_model.specs.declared.op.Case.{Case}
use Rattle.ir_model.specs.Sites.{Site}
use Rattle.ir_model.specs.Sites as site
use Rattle.ir_names.proofs.Passing.{both, as_map}
use Rattle.ir_names.proofs.ops.switch.Goals as goal

-- the block of a case
abbrev block_of : Case → Site
block_of c = site.UsesBlock c.to.0

pub returns : goal.returns
returns c =
    record {
      becomes = both c.in_ok-value.ensures.becomes
          (both c.in_ok-target.ensures.becomes
          (as_map block_of c.args.all.now c.cases.new.cases c.in_ok-cases.ensures.becomes));
      same = rw (c.in_ok-value.ensures.same, c.in_ok-cases.ensures.same) refl;
    }
