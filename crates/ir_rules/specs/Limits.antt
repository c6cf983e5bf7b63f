-- Limits of size: of arrays, and of a function's blocks and instructions.
use Rattle.std.specs.Prelude.{ℕ, suc, ◌+◌, ◌*◌, Bool, true, ◌&&◌, nat_lt, nat_le, List, [], ◌∷◌, ◌++◌, length, fold, if◌then◌else◌}
use Rattle.ir_model.specs.declared.types.IrType.{IrType}
use Rattle.ir_model.specs.declared.types.IrType.TheVariants.{Array}
use Rattle.ir_model.specs.declared.op.Op.{Op}
use Rattle.ir_model.specs.declared.op.Op.TheVariants.{Alloca, Gep}
use Rattle.ir_model.specs.declared.function.Instr.{Instr}
use Rattle.ir_model.specs.declared.function.Block.{Block}
use Rattle.ir_model.specs.declared.function.Function.{Function}
use Rattle.ir_model.specs.declared.rule.Place.{Place}
use Rattle.ir_model.specs.declared.rule.Place.TheVariants.{BlockAt}
use Rattle.ir_rules.specs.Spots.{named_by}
use Rattle.ir_rules.specs.Names.{unless}

-- the most dimensions and bytes of an array, blocks and instructions of a function, and functions of a module
abbrev pub dimension_limit : ℕ
dimension_limit = 8

abbrev pub array_limit : ℕ
array_limit = 2147483648

abbrev pub block_limit : ℕ
block_limit = 1024

abbrev pub instr_limit : ℕ
instr_limit = 8192

abbrev pub function_limit : ℕ
function_limit = 1024

-- the bytes of an integer of so many bits in memory
abbrev pub int_size : ℕ → ℕ
int_size width = if nat_le width 8 then 1 else (if nat_le width 16 then 2 else (if nat_le width 32 then 4 else 8))

-- the bytes of an array
abbrev pub array_size : List ℕ → ℕ → ℕ
array_size dims width = fold (λ size dim. size * dim) (int_size width) dims

-- An array has at most so many dimensions and bytes.
abbrev pub is_within : IrType → Bool
is_within (Array dims width) = nat_le (length dims) dimension_limit && nat_le (array_size dims width) array_limit
is_within _ = true

abbrev pub types_within : Op → Bool
types_within (Alloca kind) = is_within kind
types_within (Gep inbounds kind base indices) = is_within kind
types_within _ = true

-- the instructions of a block that are past a limit, where so many stand before it
abbrev pub instrs_past : ℕ → ℕ → List Instr → List Place
instrs_past block before [] = []
instrs_past block before (instr ∷ instrs) =
    unless (nat_lt before instr_limit && types_within instr.op) (named_by block instr.result)
    ++ instrs_past block (suc before) instrs

-- the blocks and instructions past a limit, where so many blocks and instructions stand before
abbrev pub past : ℕ → ℕ → List Block → List Place
past blocks instrs [] = []
past blocks instrs (block ∷ more) = unless (nat_lt blocks block_limit) (BlockAt block.id)
    ++ (instrs_past block.id.0 instrs block.instrs ++ past (suc blocks) (instrs + length block.instrs) more)

abbrev pub past_limits : Function → List Place
past_limits f = past 0 0 f.blocks
