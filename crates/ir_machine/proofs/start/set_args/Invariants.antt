use Rattle.std.proofs.Common.{◌≡◌}
use Rattle.ir_meaning.specs.Run.{with_args}
use Rattle.ir_machine.specs.Stands.{register}
use Rattle.ir_machine.proofs.start.set_args.Given as goal

-- what the arguments that are left set is what all set at the start
abbrev pub invariant-loop-param : goal.invariant-loop-param
invariant-loop-param l =
    with_args (register l.registers) l.param-iterator.a.rest.now l.param-iterator.b.rest.now
    ≡ with_args (register l.initial.registers) l.params l.args
