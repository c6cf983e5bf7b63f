use Rattle.std.proofs.Common.{length}
use Rattle.ir_model.specs.Sites.{instr_sites}
use Rattle.ir_text.specs.Sites.{bare_instr}
use Rattle.ir_names.proofs.Walking.{Walked}
use Rattle.ir_names.proofs.walk.instrs.Given as goal

abbrev pub invariant-loop-next : goal.invariant-loop-next
invariant-loop-next l = Walked instr_sites bare_instr l.spoken l.fn.seen l.seen l.fn.instrs l.rest l.instrs

abbrev pub decreases-loop-next : goal.decreases-loop-next
decreases-loop-next l = length l.rest
