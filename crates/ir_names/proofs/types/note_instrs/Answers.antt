use Rattle.std.proofs.Common.{arith}
use Rattle.ir_names.proofs.KindLemmas.{instrs_more}
use Rattle.ir_names.proofs.types.note_instrs.Goals as goal

pub loop-instr-preserved : goal.loop-instr-preserved
loop-instr-preserved c = instrs_more _ c.loop-instr.kinds _ c.args.instrs.now c.loop-instr.instr-index
    c.instr-item.result (omega arith) c.instr-item.is c.loop-instr.invariant c.in_ok-note_instr.ensures
