use Rattle.std.proofs.Common.{[], refl, rules}
use Rattle.ir_machine.proofs.accesses.store.Goals as goal

pub returns-in-Ok-clause-does : goal.returns-in-Ok-clause-does
returns-in-Ok-clause-does c = ([], search rules, refl)
