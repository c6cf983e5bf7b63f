use Rattle.std.proofs.Common.{◌≡◌, [], drop, refl, ◌∙◌, arith}
use Rattle.std.proofs.lemmas.List.{drop_all}
use Rattle.ir_eval.proofs.Words.{none_left_over}
use Rattle.ir_eval.proofs.arguments.begin.Goals as goal

pub returns-in-Some-rest-clause-none : goal.returns-in-Some-rest-clause-none
returns-in-Some-rest-clause-none c = λ same.
    let done : drop c.loop-param.param-index c.args.params.now ≡ [] = drop_all _ c.args.params.now (omega arith) in
    c.loop-param.invariant
    ∙ rw (done, c.in-Some-rest.is, none_left_over _ c.in-Some-rest.field-0.now) refl
