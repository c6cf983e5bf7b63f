use Rattle.std.proofs.Common.{◌≡◌, map, take}
use Rattle.std.specs.Prelude.{flat_map}
use Rattle.ir_model.specs.Shapes.{register_of}
use Rattle.classify.specs.Tally.{all_counted}
use Rattle.classify.proofs.names.count_entries.Given as goal

abbrev pub invariant-loop-entry : goal.invariant-loop-entry
invariant-loop-entry l = l.used ≡ all_counted l.initial.used (flat_map register_of (map (λ entry. entry.value) (take l.entry-index l.entries)))
