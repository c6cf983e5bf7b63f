use Rattle.ir_names.proofs.ItemsAreNumbered.{module_numbered}
use Rattle.ir_names.proofs.module.numbered.Goals as goal

pub returns : goal.returns
returns c =
    module_numbered c.args.tokens.now c.args.items c.global_names.new.items c.in_ok-globals.globals
    (rw (c.as_slice-2.ensures, c.in_ok-defined.ensures, c.as_slice.ensures) at c.in_ok-globals.ensures)
