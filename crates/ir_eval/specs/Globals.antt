-- The memory in which a function of a module starts: a block for each global, of what it holds at the start.
use mathlib.Core.Former.{Count}
use Rattle.std.specs.Prelude.{ℕ, List, [], ◌∷◌, ◌++◌, map, flat_map, replicate, Option, Some, None}
use Rattle.scev_base.specs.Residue.{residue}
use Rattle.ir_model.specs.declared.types.IrType.{IrType}
use Rattle.ir_model.specs.declared.types.IrType.TheVariants.{Int}
use Rattle.ir_model.specs.declared.op.Operand.{Operand}
use Rattle.ir_model.specs.declared.op.Operand.TheVariants as operand
use Rattle.ir_model.specs.declared.item.Init.{Init, Row_of-Init, end_of-Init, more_of-Init, Row_of-InitPart}
use Rattle.ir_model.specs.declared.item.Init.{end_of-InitPart, more_of-InitPart}
use Rattle.ir_model.specs.declared.item.Init.TheVariants as init
use Rattle.ir_model.specs.declared.item.Item.{Item}
use Rattle.ir_model.specs.declared.item.Item.TheVariants as item
use Rattle.ir_model.specs.declared.item.Module.{Module}
use Rattle.ir_memory.specs.declared.byte.Byte.{Byte}
use Rattle.ir_memory.specs.declared.byte.Byte.TheVariants as byte
use Rattle.ir_memory.specs.Spelling.{number_bytes}
use Rattle.ir_memory.specs.Memory.{Memory}
use Rattle.ir_rules.specs.Limits.{int_size}
use Rattle.ir_meaning.specs.Accesses.{type_size}

abbrev pub zeros : ℕ → List Byte
zeros size = replicate size (byte.Number 0)

-- what a literal is at its type: a numeral's bytes, the lowest first; poison as a whole; else, as for `undef`, zeros
abbrev pub literal_bytes : IrType → Operand → List Byte
literal_bytes (Int w) (operand.Num z) = number_bytes (int_size w) (residue w z)
literal_bytes kind operand.Poison = replicate (type_size kind) byte.Poison
literal_bytes kind _ = zeros (type_size kind)

-- what an initialiser is at its type: a list's parts stand one after another
abbrev mutual
  pub init_bytes : IrType → Init → List Byte
  init_bytes kind (init.Literal value) = literal_bytes kind value
  init_bytes kind init.Zero = zeros (type_size kind)
  init_bytes kind (init.Bytes text) = map byte.Number text
  init_bytes kind (init.List' count parts) = parts_bytes parts

  -- of the one initialiser that a part holds
  pub held_bytes : {n : Count} → IrType → Row_of-Init n → List Byte
  held_bytes kind (end_of-Init) = []
  held_bytes kind (more_of-Init value rest) = init_bytes kind value

  pub parts_bytes : {n : Count} → Row_of-InitPart n → List Byte
  parts_bytes (end_of-InitPart) = []
  parts_bytes (more_of-InitPart own pointer value rest) = held_bytes own value ++ parts_bytes rest

-- what a global holds at the start: zeros where it is external
abbrev pub global_bytes : IrType → Option Init → List Byte
global_bytes kind None = zeros (type_size kind)
global_bytes kind (Some value) = init_bytes kind value

abbrev pub item_blocks : Item → Memory
item_blocks (item.Global g) = global_bytes g.kind g.init ∷ []
item_blocks _ = []

-- a block for each global, in order
abbrev pub global_blocks : Module → Memory
global_blocks m = flat_map item_blocks m.items
