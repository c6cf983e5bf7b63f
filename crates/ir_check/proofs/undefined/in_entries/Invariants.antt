use Rattle.std.proofs.Common.{◌≡◌, drop}
use Rattle.std.specs.List.{flat_map}
use Rattle.ir_model.specs.Sites.{entry_sites}
use Rattle.ir_check.specs.Undefined.{first_at}
use Rattle.ir_check.proofs.undefined.in_entries.Given as goal

abbrev pub invariant-loop-entry : goal.invariant-loop-entry
invariant-loop-entry l =
    first_at l.scope (flat_map entry_sites (drop l.entry-index l.entries))
    ≡ first_at l.scope (flat_map entry_sites l.entries)
