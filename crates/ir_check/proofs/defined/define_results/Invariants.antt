use Rattle.std.proofs.Common.{drop}
use Rattle.std.specs.List.{flat_map}
use Rattle.ir_model.specs.declared.function.Instr.{Instr}
use Rattle.ir_rules.specs.Names.{result_place}
use Rattle.ir_check.proofs.DefinedSteps.{Continues}
use Rattle.ir_check.proofs.defined.define_results.Given as goal

abbrev pub invariant-loop-instr : goal.invariant-loop-instr
invariant-loop-instr l =
    Continues l.initial.defined (flat_map (λ (instr : Instr). result_place instr.result) l.instrs) l.defined
    (flat_map (λ (instr : Instr). result_place instr.result) (drop l.instr-index l.instrs))
