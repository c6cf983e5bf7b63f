use Rattle.std.proofs.Common.{◌≡◌, drop}
use Rattle.std.specs.Option.{option_copied}
use Rattle.ir_eval.specs.Arguments.{begun, argument_words}
use Rattle.ir_eval.specs.Begun.{with_first}
use Rattle.ir_eval.proofs.arguments.begin.Given as goal

abbrev pub invariant-loop-param : goal.invariant-loop-param
invariant-loop-param l =
    begun l.initial.blocks l.params (argument_words (option_copied l.initial.rest))
    ≡ with_first l.args.items
    (begun l.blocks (drop l.param-index l.params) (argument_words (option_copied l.rest)))
