-- The parts of a function that definitions speak of: what ends a block, what gives a value, operands, and names as they
-- are defined and used.
use Rattle.std.specs.Prelude.{◌≡◌, ℕ, ◌==◌, Bool, true, false, List, [], ◌∷◌, ◌++◌, map, flat_map, Option, Some, None, find, take_while}
use Rattle.scev_base.specs.declared.ids.ValueId.{ValueId}
use Rattle.ir_model.specs.declared.types.IrType.{IrType}
use Rattle.ir_model.specs.declared.types.IrType.TheVariants.{Void}
use Rattle.ir_model.specs.declared.op.Operand.{Operand}
use Rattle.ir_model.specs.declared.op.Operand.TheVariants as operand
use Rattle.ir_model.specs.declared.op.Op.{Op}
use Rattle.ir_model.specs.declared.op.Op.TheVariants.{Binary, Icmp, Cast, Select, Phi, Freeze, Load, Store, Gep, Call, Jump, Branch, Switch, Ret, Unreachable}
use Rattle.ir_model.specs.declared.function.Instr.{Instr}
use Rattle.ir_model.specs.declared.function.Block.{Block}
use Rattle.ir_model.specs.declared.function.Function.{Function}

-- ---- operations

-- what ends a block
abbrev pub is_terminator : Op → Bool
is_terminator (Jump to) = true
is_terminator (Branch cond there other) = true
is_terminator (Switch kind value other cases) = true
is_terminator (Ret value) = true
is_terminator Unreachable = true
is_terminator _ = false

-- the type of a call's answer
abbrev pub is_void : IrType → Bool
is_void Void = true
is_void _ = false

-- A result may stand before the operation: it is no store and ends no block.
abbrev pub MayHaveResult : Op → Type 0
MayHaveResult (Store kind value to) = ⊥
MayHaveResult op = is_terminator op ≡ false

-- The operation gives a value.
abbrev pub GivesValue : Op → Type 0
GivesValue (Call ret callee args) = is_void ret ≡ false
GivesValue op = MayHaveResult op

abbrev pub is_phi : Op → Bool
is_phi (Phi kind entries) = true
is_phi _ = false

-- the blocks to which an instruction may lead; only a terminator leads to any
abbrev pub targets : Op → List ℕ
targets (Jump to) = to.0 ∷ []
targets (Branch cond there else_there) = there.0 ∷ else_there.0 ∷ []
targets (Switch kind value other cases) = other.0 ∷ map (λ one. one.to.0) cases
targets _ = []

-- the operands of an instruction
abbrev pub operands : Op → List Operand
operands (Binary op nuw nsw exact disjoint kind left right) = left ∷ right ∷ []
operands (Icmp pred kind left right) = left ∷ right ∷ []
operands (Cast op nneg from value to) = value ∷ []
operands (Select cond there else_there) = cond ∷ there.value ∷ else_there.value ∷ []
operands (Phi kind entries) = map (λ entry. entry.value) entries
operands (Freeze kind value) = value ∷ []
operands (Load kind from) = from ∷ []
operands (Store kind value to) = value ∷ to ∷ []
operands (Gep inbounds kind base indices) = base ∷ map (λ typed. typed.value) indices
operands (Call ret callee args) = map (λ typed. typed.value) args
operands (Branch cond there else_there) = cond ∷ []
operands (Switch kind value other cases) = value ∷ []
operands (Ret (Some typed)) = typed.value ∷ []
operands _ = []

-- the blocks that a phi has entries from
abbrev pub sources : Op → List ℕ
sources (Phi kind entries) = map (λ entry. entry.from.0) entries
sources _ = []

abbrev pub register_of : Operand → List ℕ
register_of (operand.Reg v) = v.0 ∷ []
register_of _ = []

abbrev pub result_of : Option ValueId → List ℕ
result_of None = []
result_of (Some v) = v.0 ∷ []

-- all instructions, in text order
abbrev pub instructions : List Block → List Instr
instructions blocks = flat_map (λ block. block.instrs) blocks

-- ---- functions

-- the registers that are defined, by parameters and by instructions, and those that are used, each time anew
abbrev pub defined_values : Function → List ℕ
defined_values f = map (λ p. p.value.0) f.params ++ flat_map (λ instr. result_of instr.result) (instructions f.blocks)

abbrev pub used_values : Function → List ℕ
used_values f = flat_map (λ instr. flat_map register_of (operands instr.op)) (instructions f.blocks)

-- the blocks that are defined, and those that are named by instructions
abbrev pub defined_blocks : Function → List ℕ
defined_blocks f = map (λ block. block.id.0) f.blocks

abbrev pub used_blocks : Function → List ℕ
used_blocks f = flat_map (λ instr. targets instr.op ++ sources instr.op) (instructions f.blocks)

-- the number of a function's first block
abbrev pub entry : List Block → ℕ
entry [] = 0
entry (block ∷ blocks) = block.id.0

-- the block of this number: the first one in text order
abbrev pub block_of : Function → ℕ → Option Block
block_of f b = find (λ block. block.id.0 == b) f.blocks

-- the phis that stand before all other instructions
abbrev pub leading_phis : List Instr → List Instr
leading_phis instrs = take_while (λ instr. is_phi instr.op) instrs
