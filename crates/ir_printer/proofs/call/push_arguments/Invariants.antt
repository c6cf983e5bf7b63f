use Rattle.std.proofs.Common.{◌≡◌, ◌+◌, ◌++◌, drop}
use Rattle.ir_printer.specs.Shown.{shown}
use Rattle.ir_printer.proofs.Arguments.{others_text}
use Rattle.ir_printer.proofs.call.push_arguments.Given as goal

-- What is left of the arguments behind the first is still to be printed.
abbrev pub invariant-loop-arg : goal.invariant-loop-arg
invariant-loop-arg l = (l.place ≡ 2 + l.arg-index)
    × (l.out.items ++ others_text (shown l.names) (drop (3 + l.arg-index) l.words) (drop l.arg-index l.rest)
    ≡ l.initial.out.items ++ others_text (shown l.names) (drop 3 l.words) l.rest)
