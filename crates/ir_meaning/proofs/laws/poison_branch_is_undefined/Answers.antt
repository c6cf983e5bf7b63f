use Rattle.std.proofs.Common.{refl}
use Rattle.ir_meaning.specs.Step.{step}
use Rattle.ir_meaning.proofs.laws.poison_branch_is_undefined.Goals as goal

pub returns : goal.returns
unfolding step
returns c = λ f choice s instr cond there else_there running at branch poison. rw (running, at, branch, poison) refl
