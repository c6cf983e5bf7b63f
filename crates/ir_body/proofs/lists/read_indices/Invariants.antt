use Rattle.std.proofs.Common.{◌≤◌, ◌-◌, length, map}
use Rattle.ir_model.specs.Sites.{typed_sites}
use Rattle.ir_text.specs.Sites.{bare_typed}
use Rattle.ir_parts.proofs.ListLoops.{PartsRead}
use Rattle.ir_body.specs.Operands.{typed_at}
use Rattle.ir_body.proofs.GatheredLoops.{seen}
use Rattle.ir_body.proofs.lists.read_indices.Given as goal

abbrev pub invariant-indices : goal.invariant-indices
invariant-indices l = record {
  reading : PartsRead typed_at l.tokens l.from l.at (map (seen l.tokens bare_typed typed_sites) l.indices);
  forth : l.from ≤ l.at;
  within : l.at ≤ length l.tokens.tokens;
}

abbrev pub decreases-indices : goal.decreases-indices
decreases-indices l = length l.tokens.tokens - l.at
