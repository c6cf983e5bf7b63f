use Rattle.std.proofs.Common.{codes}
use Rattle.std.proofs.lemmas.Result.{IfOk-equal}
use Rattle.ir_grammar.specs.Printing.{op_text}
use Rattle.ir_printer.proofs.Appended.{appended_six}
use Rattle.ir_printer.proofs.memory.push_gep.Goals as goal

pub returns : goal.returns
unfolding op_text
returns c =
    IfOk-equal c.push_indices.result _ _ _ c.push_indices.ensures (
    appended_six _ _ _ _ _ _ (codes "getelementptr ") _ _ (codes ", ") _ _ c.in_ok-extend_from_slice.ensures.items
    c.in_ok-push_flag.ensures c.in_ok-push_type.ensures c.in_ok-extend_from_slice-2.ensures.items
    c.in_ok-push_pointer.ensures
    )
