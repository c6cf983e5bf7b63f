use Rattle.std.proofs.Common.{rules, sym, [], ◌∷◌}
use Rattle.ir_model.specs.declared.function.Param.{Param}
use Rattle.ir_model.specs.declared.rule.Place.TheVariants.{Value}
use Rattle.ir_check.proofs.DefinedSteps.{next_room, next_again, Continues-more, end_again, Continues-all}
use Rattle.ir_check.proofs.defined.define_params.Goals as goal

pub define_value-requires : goal.define_value-requires
define_value-requires c =
    (next_room (λ (param : Param). Value param.value ∷ []) c.args.params.now c.loop-param.param-index
    c.param-item.result c.args.defined.now c.loop-param.defined (search rules) c.param-item.is c.loop-param.invariant).0

pub loop-param-preserved : goal.loop-param-preserved
loop-param-preserved c =
    Continues-more (λ (param : Param). Value param.value ∷ []) c.args.params.now c.loop-param.param-index
    c.param-item.result c.args.defined.now c.loop-param.defined (search rules) c.param-item.is c.loop-param.invariant
    c.define_value.new.self (search rules) (search rules)

pub returns-in-Some-clause-again : goal.returns-in-Some-clause-again
returns-in-Some-clause-again c =
    sym (next_again (λ (param : Param). Value param.value ∷ []) c.args.params.now c.loop-param.param-index
    c.param-item.result c.args.defined.now c.loop-param.defined (search rules) c.param-item.is c.loop-param.invariant
    c.in-Some.place (search rules))

pub returns : goal.returns
returns c = record {
  again =
      end_again (λ (param : Param). Value param.value ∷ []) c.args.params.now c.loop-param.param-index
      c.args.defined.now c.loop-param.defined (search rules) c.loop-param.invariant;
  all = λ none.
      Continues-all (λ (param : Param). Value param.value ∷ []) c.args.params.now c.loop-param.param-index
      c.args.defined.now c.loop-param.defined (search rules) c.loop-param.invariant;
}
