use Rattle.std.proofs.Common.{take}
use Rattle.ir_model.specs.Defined.{instr_type}
use Rattle.ir_names.specs.Kinds.{Notes}
use Rattle.ir_names.proofs.types.note_instrs.Given as goal

abbrev pub invariant-loop-instr : goal.invariant-loop-instr
invariant-loop-instr l = Notes l.fn.kinds l.kinds (instr_type (take l.instr-index l.instrs))
