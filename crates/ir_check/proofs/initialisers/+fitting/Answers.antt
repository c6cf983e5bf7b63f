use Rattle.std.proofs.Common.{arith}
use Rattle.std.proofs.lemmas.Grind.{common_steps}
use Rattle.ir_check.proofs.PartRows.{list_fits}
use Rattle.ir_check.proofs.initialisers.+fitting.Goals as goal

pub init_fits-returns-in-List : goal.init_fits-returns-in-List
init_fits-returns-in-List t c = grind (arith, common_steps, list_fits c.args.kind.now c.in-List.parts)
