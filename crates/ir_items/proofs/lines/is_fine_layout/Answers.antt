use Rattle.std.proofs.Common.{◌∙◌}
use Rattle.ir_items.proofs.FineLayouts.{fine_found, none_asked}
use Rattle.ir_items.proofs.lines.is_fine_layout.Goals as goal

pub returns : goal.returns
returns c =
    none_asked c.layout_fault.result c.is_none.result c.is_none.ensures
    ∙ fine_found c.args.text.now c.layout_fault.result c.layout_fault.ensures
