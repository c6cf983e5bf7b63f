use Rattle.std.proofs.Common.{arith}
use Rattle.ir_printer.specs.Shown.{shown}
use Rattle.ir_printer.proofs.Arguments.{arguments_kept, arguments_all}
use Rattle.ir_printer.proofs.call.push_arguments.Goals as goal

pub loop-arg-preserved : goal.loop-arg-preserved
loop-arg-preserved c = (
  omega arith,
  arguments_kept (shown c.args.names.now) c.args.words.now c.in-Some.rest.now c.loop-arg.arg-index c.loop-arg.place
      c.arg-item.result _ _ _ _ _ c.loop-arg-test.true c.loop-arg.invariant.0 c.in_ok-extend_from_slice.ensures.items
      c.in_ok-push_argument-2.ensures c.words_at-in-loop-arg.ensures c.arg-item.is c.loop-arg.invariant.1,
)

pub returns : goal.returns
returns c =
    arguments_all (shown c.args.names.now) c.args.words.now c.args.args.now _ _ c.loop-arg.arg-index _ _ _ _
    c.in-Some.ensures.cases.0 c.in_ok-push_argument.ensures c.words_at.ensures c.loop-arg-test.false
    c.loop-arg.invariant.1
