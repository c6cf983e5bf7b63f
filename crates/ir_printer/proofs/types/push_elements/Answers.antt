use Rattle.std.proofs.Common.{arith}
use Rattle.std.proofs.lemmas.Grind.{common_steps}
use Rattle.ir_printer.proofs.Elements.{elements-parts}
use Rattle.ir_printer.proofs.types.push_elements.Goals as goal

pub returns : goal.returns
returns c = grind (arith, common_steps, elements-parts c.args.dims.now c.args.width)
