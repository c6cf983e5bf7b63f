use Rattle.std.proofs.Common.{arith}
use Rattle.std.proofs.lemmas.Grind.{common_steps}
use Rattle.ir_check.proofs.PartRows.{list_in_range}
use Rattle.ir_check.proofs.initialisers.+ranging.Goals as goal

pub init_in_range-returns-in-List : goal.init_in_range-returns-in-List
init_in_range-returns-in-List t c = grind (arith, common_steps, list_in_range c.args.kind.now c.in-List.parts)
