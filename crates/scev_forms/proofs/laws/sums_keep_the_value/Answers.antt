use Rattle.scev_forms.proofs.SumsFormed.{sum_value, product_value, recurrence_value}
use Rattle.scev_forms.proofs.laws.sums_keep_the_value.Goals as goal

pub returns-clause-sum : goal.returns-clause-sum
returns-clause-sum c = sum_value

pub returns-clause-product : goal.returns-clause-product
returns-clause-product c = product_value

pub returns-clause-recurrence : goal.returns-clause-recurrence
returns-clause-recurrence c = recurrence_value
