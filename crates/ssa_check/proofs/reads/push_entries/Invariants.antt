use Rattle.std.proofs.Common.{◌≡◌, ◌++◌, flat_map, take}
use Rattle.ssa_check.specs.Tables.{entry_uses}
use Rattle.ssa_check.proofs.reads.push_entries.Given as goal

abbrev pub invariant-loop-entry : goal.invariant-loop-entry
invariant-loop-entry l = l.out ≡ l.initial.out ++ flat_map (entry_uses l.sizes l.user.0) (take l.entry-index l.entries)
