use Rattle.std.proofs.Common.{◌≡◌, map, take}
use Rattle.classify.specs.Tally.{all_counted}
use Rattle.classify.proofs.names.count_froms.Given as goal

abbrev pub invariant-loop-entry : goal.invariant-loop-entry
invariant-loop-entry l = l.used ≡ all_counted l.initial.used (map (λ entry. entry.from.0) (take l.entry-index l.entries))
