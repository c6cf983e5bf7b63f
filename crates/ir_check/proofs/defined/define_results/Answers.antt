use Rattle.std.proofs.Common.{rules, sym}
use Rattle.ir_model.specs.declared.function.Instr.{Instr}
use Rattle.ir_rules.specs.Names.{result_place}
use Rattle.ir_check.proofs.DefinedSteps.{next_room, next_again, Continues-more, end_again, Continues-all}
use Rattle.ir_check.proofs.defined.define_results.Goals as goal

pub define_given-requires : goal.define_given-requires
define_given-requires c =
    next_room (λ (instr : Instr). result_place instr.result) c.args.instrs.now c.loop-instr.instr-index
    c.instr-item.result c.args.defined.now c.loop-instr.defined (search rules) c.instr-item.is c.loop-instr.invariant

pub loop-instr-preserved : goal.loop-instr-preserved
loop-instr-preserved c =
    Continues-more (λ (instr : Instr). result_place instr.result) c.args.instrs.now c.loop-instr.instr-index
    c.instr-item.result c.args.defined.now c.loop-instr.defined (search rules) c.instr-item.is c.loop-instr.invariant
    c.define_given.new.defined (search rules) (search rules)

pub returns-in-Some-clause-again : goal.returns-in-Some-clause-again
returns-in-Some-clause-again c =
    sym (next_again (λ (instr : Instr). result_place instr.result) c.args.instrs.now c.loop-instr.instr-index
    c.instr-item.result c.args.defined.now c.loop-instr.defined (search rules) c.instr-item.is c.loop-instr.invariant
    c.in-Some.place (search rules))

pub returns : goal.returns
returns c = record {
  again =
      end_again (λ (instr : Instr). result_place instr.result) c.args.instrs.now c.loop-instr.instr-index
      c.args.defined.now c.loop-instr.defined (search rules) c.loop-instr.invariant;
  all = λ none.
      Continues-all (λ (instr : Instr). result_place instr.result) c.args.instrs.now c.loop-instr.instr-index
      c.args.defined.now c.loop-instr.defined (search rules) c.loop-instr.invariant;
}
