-- What is kept at each step: the walk so far, the place in its block, the registers that are set, and bytes in memory.
use Rattle.std.proofs.Common.{◌≡◌, ℕ, ◌<◌, ◌≤◌, true, false, List, ◌∷◌, length, Some, Contains, slice_get}
use Rattle.ir_model.specs.declared.op.Operand.{Operand}
use Rattle.ir_model.specs.declared.op.Operand.TheVariants as operand
use Rattle.ir_model.specs.declared.function.Instr.{Instr}
use Rattle.ir_model.specs.declared.function.Block.{Block}
use Rattle.ir_model.specs.declared.function.Function.{Function}
use Rattle.ir_model.specs.declared.signature.Signatures.{Signatures}
use Rattle.ir_model.specs.Shapes.{block_of, leading_phis, operands, targets}
use Rattle.ir_model.specs.Walks.{Trail}
use Rattle.ir_model.specs.WellMade.{IsFormedInstr}
use Rattle.ir_rules.specs.Types.{kind_of, types_fit, widths_fit}
use Rattle.ir_rules.specs.Values.{is_void_value, misuses_pointer, call_fits}
use Rattle.ir_rules.specs.Blocks.{entries_fit}
use Rattle.ir_rules.specs.Uses.{HasPassed}
use Rattle.ir_memory.specs.Memory.{are_bytes}
use Rattle.ir_meaning.specs.declared.value.Value.{Value}
use Rattle.ir_meaning.specs.State.{Registers, State}
use Rattle.ir_meaning.specs.Values.{is_of_type}

-- The register holds a value of its type.
pub record Holds (f : Function) (registers : Registers) (v : ℕ) : Type 0 where
  pub value : Value
  pub set : registers v ≡ Some value
  pub typed : is_of_type (kind_of f v) value ≡ true

-- The registers among some operands hold values of their types.
abbrev pub HoldsOperands : Function → Registers → List Operand → Type 0
HoldsOperands f registers operands = (v : ℕ) → Contains operands (operand.Reg (record { 0 = v })) → Holds f registers v

-- An instruction stands in a block of the function.
pub record StandsIn (f : Function) (b i : ℕ) (there : Block) (one : Instr) : Type 0 where
  pub block : block_of f b ≡ Some there
  pub instr : slice_get there.instrs i ≡ Some one

-- What rules and forms say of an instruction of a block.
pub record Facts (signatures : Signatures) (f : Function) (b : ℕ) (instr : Instr) : Type 0 where
  pub formed : IsFormedInstr instr
  pub types : types_fit f instr.op ≡ true
  pub widths : widths_fit instr.op ≡ true
  pub voids : is_void_value instr ≡ false
  pub pointers : misuses_pointer instr.op ≡ false
  pub calls : call_fits signatures instr.op ≡ true
  pub entries : entries_fit f b instr.op ≡ true
  pub leads : (to : ℕ) → Contains (targets instr.op) to → (block : Block) × (block_of f to ≡ Some block)

-- The state stands in a block behind its leading phis, what its walk has passed holds values, and its memory bytes.
pub record Sound (f : Function) (s : State) : Type 0 where
  pub before : List ℕ
  pub trail : s.trail ≡ s.block ∷ before
  pub walk : Trail f (s.block ∷ before)
  pub block : Block
  pub at : block_of f s.block ≡ Some block
  pub within : s.place < length block.instrs
  pub behind : length (leading_phis block.instrs) ≤ s.place
  pub held : (v : ℕ) → HasPassed f v before s.block s.place → Holds f s.registers v
  pub bytes : are_bytes s.memory ≡ true
