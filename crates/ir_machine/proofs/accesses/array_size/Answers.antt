use Rattle.std.proofs.Common.{arith}
use Rattle.std.proofs.lemmas.Grind.{common_steps}
use Rattle.std.proofs.lemmas.Nat.{mul-mod_first}
use Rattle.ir_machine.proofs.accesses.array_size.Goals as goal

pub loop-dim-preserved : goal.loop-dim-preserved
loop-dim-preserved c = grind (arith, common_steps, mul-mod_first)
