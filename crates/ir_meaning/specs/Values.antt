-- Values of a type.
use Rattle.std.specs.Prelude.{◌^◌, Bool, true, false, nat_lt, length}
use Rattle.ir_model.specs.declared.types.IrType.{IrType}
use Rattle.ir_model.specs.declared.types.IrType.TheVariants.{Int, Ptr}
use Rattle.ir_memory.specs.Memory.{Memory}
use Rattle.ir_meaning.specs.declared.value.Value.{Value}
use Rattle.ir_meaning.specs.declared.value.Value.TheVariants as value

-- whether a value is one of the type: a number below 2^w for an integer of w bits, a pointer or null for `ptr`, and
-- poison for both
abbrev pub is_of_type : IrType → Value → Bool
is_of_type (Int w) (value.Number n) = nat_lt n (2 ^ w)
is_of_type (Int w) value.Poison = true
is_of_type Ptr (value.Pointer block offset) = true
is_of_type Ptr value.Null = true
is_of_type Ptr value.Poison = true
is_of_type _ _ = false

-- whether a value may be handed in for a parameter of the type: it is one of the type, and a pointer is to a block of
-- the memory
abbrev pub fits : Memory → IrType → Value → Bool
fits memory Ptr (value.Pointer block offset) = nat_lt block (length memory)
fits memory kind x = is_of_type kind x
