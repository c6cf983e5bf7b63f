use Rattle.value_truth.proofs.Scopes.{names_further}
use Rattle.value_truth.proofs.steps.names_carry_over.Goals as goal

pub returns : goal.returns
returns c f loops v x b index tree scope there = names_further f loops v x b index there tree scope
