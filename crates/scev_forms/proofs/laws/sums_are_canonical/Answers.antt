use Rattle.scev_forms.proofs.SumsFormed.{sum_canonical, product_canonical, recurrence_canonical}
use Rattle.scev_forms.proofs.laws.sums_are_canonical.Goals as goal

pub returns-clause-sum : goal.returns-clause-sum
returns-clause-sum c = sum_canonical

pub returns-clause-product : goal.returns-clause-product
returns-clause-product c = product_canonical

pub returns-clause-recurrence : goal.returns-clause-recurrence
returns-clause-recurrence c = recurrence_canonical
