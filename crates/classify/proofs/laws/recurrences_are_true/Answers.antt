-- The law of recurrences.
use Rattle.classify.proofs.RecurrenceTruth as truth
use Rattle.classify.proofs.laws.recurrences_are_true.Goals as goal

pub returns : goal.returns
returns c = truth.recurrences_are_true
