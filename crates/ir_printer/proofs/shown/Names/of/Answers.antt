use Rattle.std.proofs.Common.{rules}
use Rattle.ir_printer.specs.Shown.{shown}
use Rattle.ir_printer.proofs.Numbered.{walked_shown}
use Rattle.ir_printer.proofs.shown.Names.of.Goals as goal

pub returns : goal.returns
unfolding shown
returns c = walked_shown c.args.globals.now c.args.function.now c.walk_function-2.new.numbers c.requires (search rules)
