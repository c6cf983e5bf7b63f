use Rattle.std.proofs.Common.{◌≡◌, take, map}
use Rattle.ir_printer.specs.Counting.{start_of}
use Rattle.ir_printer.proofs.numbers.start_of_blocks.Given as goal

abbrev pub invariant-loop-label : goal.invariant-loop-label
invariant-loop-label l = l.numbers ≡ map start_of (take l.label-index l.labels)
