use Rattle.std.proofs.Common.{None}
use Rattle.scev_forms.proofs.TurnValues.{turn_stands}
use Rattle.scev_forms.proofs.laws.turns_keep_the_value.Goals as goal

pub returns-clause-canonical : goal.returns-clause-canonical
returns-clause-canonical c parents l count tree out some canonical count_is clear h =
    (turn_stands (λ register. None) (λ loop. 0) parents l count tree out canonical count_is clear h).0

pub returns-clause-value : goal.returns-clause-value
returns-clause-value c parents l count tree out held turns n some canonical count_is clear h at =
    (turn_stands held turns parents l count tree out canonical count_is clear h).1 at n
