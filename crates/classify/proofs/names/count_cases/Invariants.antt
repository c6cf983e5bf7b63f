use Rattle.std.proofs.Common.{◌≡◌, map, take}
use Rattle.classify.specs.Tally.{all_counted}
use Rattle.classify.proofs.names.count_cases.Given as goal

abbrev pub invariant-loop-case : goal.invariant-loop-case
invariant-loop-case l = l.used ≡ all_counted l.initial.used (map (λ one. one.to.0) (take l.case-index l.cases))
