use Rattle.std.proofs.Common.{arith}
use Rattle.ir_check.proofs.Pairs.{not_two}
use Rattle.ir_check.proofs.calls.are_both.Goals as goal

pub returns-in_default : goal.returns-in_default
returns-in_default c = not_two c.args.args.now c.args.kind.now (λ two. omega arith)

pub returns-in_default-2 : goal.returns-in_default-2
returns-in_default-2 c = not_two c.args.args.now c.args.kind.now (λ two. omega arith)
