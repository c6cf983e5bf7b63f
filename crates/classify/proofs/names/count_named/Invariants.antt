use Rattle.std.proofs.Common.{◌≡◌, ◌++◌, take}
use Rattle.std.specs.Prelude.{flat_map}
use Rattle.ir_model.specs.Shapes.{targets}
use Rattle.ir_model.specs.Shapes.{sources}
use Rattle.classify.specs.Tally.{all_counted}
use Rattle.classify.proofs.names.count_named.Given as goal

abbrev pub invariant-loop-instr : goal.invariant-loop-instr
invariant-loop-instr l = l.used ≡ all_counted l.initial.used (flat_map (λ instr. targets instr.op ++ sources instr.op) (take l.instr-index l.instrs))
