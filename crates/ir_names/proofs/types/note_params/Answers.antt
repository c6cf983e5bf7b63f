use Rattle.std.proofs.Common.{arith}
use Rattle.ir_names.proofs.KindLemmas.{params_more}
use Rattle.ir_names.proofs.types.note_params.Goals as goal

pub loop-param-preserved : goal.loop-param-preserved
loop-param-preserved c = params_more _ c.loop-param.kinds _ _ _ c.param-item.result
    (omega arith) c.param-item.is c.loop-param.invariant (rw c.in_ok-copy.ensures at c.note.ensures)
