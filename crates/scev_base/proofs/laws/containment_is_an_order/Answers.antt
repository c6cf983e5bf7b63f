use Rattle.std.proofs.Common.{refl}
use Rattle.scev_base.proofs.NestLemmas.{contains_again, contains_each_other}
use Rattle.scev_base.proofs.laws.containment_is_an_order.Goals as goal

pub returns-clause-itself : goal.returns-clause-itself
returns-clause-itself c = λ parents l. (0, refl)

pub returns-clause-again : goal.returns-clause-again
returns-clause-again c = contains_again

pub returns-clause-each_other : goal.returns-clause-each_other
returns-clause-each_other c = contains_each_other
