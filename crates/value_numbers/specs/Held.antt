-- What an operand is.
use Rattle.std.specs.Prelude.{Option, Some}
use Rattle.ir_meaning.specs.declared.value.Value.{Value}
use Rattle.ir_meaning.specs.declared.value.Value.TheVariants as value
use Rattle.ir_meaning.specs.State.{Registers}
use Rattle.value_view.specs.declared.source.Source.{Source}
use Rattle.value_view.specs.declared.source.Source.TheVariants.{Number, Register}

-- a number, or what a register holds
abbrev pub held_by : Registers → Source → Option Value
held_by registers (Number n) = Some (value.Number n)
held_by registers (Register v) = registers v.0
