use Rattle.std.proofs.Common.{◌≡◌, take, map}
use Rattle.ir_model.specs.declared.function.ValueInfo.{ValueInfo}
use Rattle.ir_printer.specs.Counting.{start_of}
use Rattle.ir_printer.proofs.numbers.start_of_values.Given as goal

abbrev pub invariant-loop-info : goal.invariant-loop-info
invariant-loop-info l = l.numbers ≡ map (λ (info : ValueInfo). start_of info.name) (take l.info-index l.values)
