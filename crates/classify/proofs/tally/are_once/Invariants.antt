use Rattle.std.proofs.Common.{◌≡◌, ◌<◌, ℕ, true, get_or}
use Rattle.classify.specs.declared.tally.Often.TheVariants.{Never}
use Rattle.classify.specs.Tally.{once_if_any}
use Rattle.classify.proofs.tally.are_once.Given as goal

abbrev pub invariant-loop-number : goal.invariant-loop-number
invariant-loop-number l = (number : ℕ) → number < l.number → once_if_any (get_or l.defined number Never) (get_or l.used number Never) ≡ true
