use Rattle.std.proofs.Common.{◌≡◌, take}
use Rattle.ir_check.specs.Entries.{named_blocks}
use Rattle.ir_check.proofs.entries.sorted_names.Given as goal

abbrev pub invariant-loop-entry : goal.invariant-loop-entry
invariant-loop-entry l = l.named.items ≡ named_blocks (take l.entry-index l.entries)
