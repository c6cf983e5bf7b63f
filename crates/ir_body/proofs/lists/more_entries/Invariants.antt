use Rattle.std.proofs.Common.{◌≤◌, ◌-◌, length, map}
use Rattle.ir_model.specs.Sites.{entry_sites}
use Rattle.ir_text.specs.Sites.{bare_entry}
use Rattle.ir_parts.proofs.ListLoops.{PartsRead}
use Rattle.ir_body.specs.Lists.{entry_at}
use Rattle.ir_body.proofs.GatheredLoops.{seen}
use Rattle.ir_body.proofs.lists.more_entries.Given as goal

abbrev pub invariant-entries : goal.invariant-entries
invariant-entries l = record {
  reading : PartsRead entry_at l.tokens l.from l.at (map (seen l.tokens bare_entry entry_sites) l.entries);
  forth : l.from ≤ l.at;
  within : l.at ≤ length l.tokens.tokens;
}

abbrev pub decreases-entries : goal.decreases-entries
decreases-entries l = length l.tokens.tokens - l.at
