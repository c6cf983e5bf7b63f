use Rattle.value_exprs.proofs.OneExpression.{one_value, one_operand}
use Rattle.value_exprs.proofs.laws.one_expression.Goals as goal

pub returns-clause-value : goal.returns-clause-value
returns-clause-value c view progress other v x y same is also = one_value view is other same y also

pub returns-clause-operand : goal.returns-clause-operand
returns-clause-operand c view progress other w place of x y same is also = one_operand view is other same y also
