use Rattle.std.proofs.Common.{◌≡◌, take}
use Rattle.std.specs.Prelude.{flat_map}
use Rattle.ir_model.specs.Shapes.{result_of}
use Rattle.classify.specs.Tally.{all_counted}
use Rattle.classify.proofs.names.count_results.Given as goal

abbrev pub invariant-loop-instr : goal.invariant-loop-instr
invariant-loop-instr l = l.defined ≡ all_counted l.initial.defined (flat_map (λ instr. result_of instr.result) (take l.instr-index l.instrs))
