-- Which phis of a loop of one block are add-recurrences.
use Rattle.std.specs.Prelude.{◌≡◌, ◌≢◌, ◌⊎◌, ◌==◌, ℕ, List, [], ◌∷◌, not, Option, Some, None, All, Contains, filter}
use Rattle.scev_base.specs.Residue.{residue}
use Rattle.ir_model.specs.declared.types.IrType.TheVariants.{Int}
use Rattle.ir_model.specs.declared.op.Operand.{Operand}
use Rattle.ir_model.specs.declared.op.Operand.TheVariants as operand
use Rattle.ir_model.specs.declared.op.BinOp.TheVariants as binary
use Rattle.ir_model.specs.declared.op.PhiEntry.{PhiEntry}
use Rattle.ir_model.specs.declared.op.Op.{Op}
use Rattle.ir_model.specs.declared.op.Op.TheVariants.{Binary, Phi}
use Rattle.ir_model.specs.declared.function.Instr.{Instr}
use Rattle.ir_model.specs.declared.function.Block.{Block}
use Rattle.ir_model.specs.declared.function.Function.{Function}
use Rattle.ir_model.specs.Shapes.{block_of, is_phi, leading_phis}
use Rattle.classify.specs.Names.{NamesAreOnce}

-- the phis of a block, in order
abbrev pub phis : List Instr → List Instr
phis instrs = filter (λ instr. is_phi instr.op) instrs

-- Some instruction of the block gives its result to the register by this operation.
abbrev pub Has : Block → ℕ → Op → Type 0
Has block v op = (instr : Instr) × Contains block.instrs instr
    × (instr.result ≡ Some (record { 0 = v })) × (instr.op ≡ op)

-- A numeral of `i32` with this residue.
abbrev pub IsNumeral : ℕ → Operand → Type 0
IsNumeral n (operand.Num z) = residue 32 z ≡ n
IsNumeral n _ = ⊥

-- The operation is the `add` of the register and a numeral with this residue, in either order, with any flags.
abbrev pub Increments : ℕ → ℕ → Op → Type 0
Increments p step (Binary binary.Add nuw nsw exact disjoint kind left right) = (kind ≡ Int 32)
    × (((left ≡ operand.Reg (record { 0 = p })) × IsNumeral step right)
    ⊎ (IsNumeral step left × (right ≡ operand.Reg (record { 0 = p }))))
Increments p step _ = ⊥

-- the entries of a phi from a block, and the others
abbrev pub entries_from : ℕ → List PhiEntry → List PhiEntry
entries_from b entries = filter (λ entry. entry.from.0 == b) entries

abbrev pub other_entries : ℕ → List PhiEntry → List PhiEntry
other_entries b entries = filter (λ entry. not (entry.from.0 == b)) entries

-- The register p is a phi of block b that starts at one numeral on every edge from outside, and on the edge from b
-- itself takes a register to which b adds one numeral to p. The function defines each name once, and the phis of b come
-- first.
pub record IsRecurrence (f : Function) (b p first step : ℕ) : Type 0 where
  pub names : NamesAreOnce f
  pub block : Block
  pub is_block : block_of f b ≡ Some block
  pub phis_first : phis block.instrs ≡ leading_phis block.instrs
  pub entries : List PhiEntry
  pub phi : Has block p (Phi (Int 32) entries)
  pub next : ℕ
  pub back : entries_from b entries ≡ record { value = operand.Reg (record { 0 = next }); from = record { 0 = b } } ∷ []
  pub increment : Op
  pub increments : Increments p step increment
  pub adds : Has block next increment
  pub outside : other_entries b entries ≢ []
  pub starts : All (λ entry. IsNumeral first entry.value) (other_entries b entries)

-- what is reported of a phi of a block: the first part and the step, or neither
abbrev pub IsAnswer : Function → ℕ → ℕ → Option (ℕ × ℕ) → Type 0
IsAnswer f b p None = (first step : ℕ) → IsRecurrence f b p first step → ⊥
IsAnswer f b p (Some found) = IsRecurrence f b p found.0 found.1

-- The register is the result of a phi of the block.
abbrev pub IsPhiOf : Function → ℕ → ℕ → Type 0
IsPhiOf f b p = (block : Block) × (block_of f b ≡ Some block) × (instr : Instr) × Contains (phis block.instrs) instr
    × (instr.result ≡ Some (record { 0 = p }))
