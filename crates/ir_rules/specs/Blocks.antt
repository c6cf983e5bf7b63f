-- Rules on blocks and phis: nothing leads to the first block, phis come first, and their entries are their block's
-- edges.
use Rattle.std.specs.Prelude.{ℕ, ◌==◌, Bool, true, false, not, ◌&&◌, ◌||◌, List, [], ◌∷◌, ◌++◌, map, flat_map, filter, count_by}
use Rattle.std.specs.List.{list_any, list_all}
use Rattle.scev_base.specs.Residue.{residue}
use Rattle.ir_model.specs.declared.types.IrType.{IrType}
use Rattle.ir_model.specs.declared.op.Operand.{Operand}
use Rattle.ir_model.specs.declared.op.Operand.TheVariants as operand
use Rattle.ir_model.specs.declared.op.PhiEntry.{PhiEntry}
use Rattle.ir_model.specs.declared.op.Op.{Op}
use Rattle.ir_model.specs.declared.op.Op.TheVariants.{Phi}
use Rattle.ir_model.specs.declared.function.Instr.{Instr}
use Rattle.ir_model.specs.declared.function.Block.{Block}
use Rattle.ir_model.specs.declared.function.Function.{Function}
use Rattle.ir_model.specs.declared.rule.Place.{Place}
use Rattle.ir_model.specs.declared.rule.Place.TheVariants.{BlockAt}
use Rattle.ir_model.specs.Shapes.{entry, targets, is_phi}
use Rattle.ir_model.specs.Walks.{successors}
use Rattle.ir_rules.specs.Spots.{Spot, spots, place, places_where}
use Rattle.ir_rules.specs.Names.{unless}
use Rattle.ir_rules.specs.Types.{width_of}

-- ---- the first block is a target

abbrev pub is_target : Function → ℕ → Bool
is_target f b = list_any (λ (spot : Spot). list_any (λ to. to == b) (targets spot.instr.op)) (spots f)

abbrev pub entry_targets : Function → List Place
entry_targets f = unless (not (is_target f (entry f.blocks))) (BlockAt (record { 0 = entry f.blocks }))

-- ---- a phi stands after another instruction

-- the phis of a list behind another instruction of it, or of others before it
abbrev pub late : Bool → List Instr → List Instr
late other [] = []
late other (instr ∷ instrs) = filter (λ (one : Instr). other && is_phi one.op) (instr ∷ [])
    ++ late (other || not (is_phi instr.op)) instrs

abbrev pub late_phis : Function → List Place
late_phis f = flat_map (λ (block : Block).
    map (λ (instr : Instr). place (record { block = block.id.0; instr = instr })) (late false block.instrs)) f.blocks

-- ---- entries of phis

-- the blocks that lead to a block, in text order, each once for every edge
abbrev pub incoming : Function → ℕ → List ℕ
incoming f b = flat_map (λ (block : Block).
    map (λ to. block.id.0) (filter (λ to. to == b) (successors block.instrs))) f.blocks

-- Two lists have each number as often.
abbrev pub occurs : ℕ → List ℕ → ℕ
occurs n ns = count_by (λ other. other == n) ns

abbrev pub same_numbers : List ℕ → List ℕ → Bool
same_numbers ms ns = list_all (λ n. occurs n ms == occurs n ns) (ms ++ ns)

-- Two operands of a type are one: numerals are read modulo 2^w.
abbrev pub same_operand : IrType → Operand → Operand → Bool
same_operand kind (operand.Reg v) (operand.Reg w) = v.0 == w.0
same_operand kind (operand.Num m) (operand.Num n) = residue (width_of kind) m == residue (width_of kind) n
same_operand kind operand.Null operand.Null = true
same_operand kind (operand.Global g) (operand.Global h) = g == h
same_operand kind operand.Undef operand.Undef = true
same_operand kind operand.Poison operand.Poison = true
same_operand kind _ _ = false

-- Entries from one block have one operand.
abbrev pub entries_agree : IrType → List PhiEntry → Bool
entries_agree kind entries = list_all (λ (one : PhiEntry). list_all (λ (other : PhiEntry).
    not (one.from.0 == other.from.0) || same_operand kind one.value other.value) entries) entries

abbrev pub entries_fit : Function → ℕ → Op → Bool
entries_fit f b (Phi kind entries) =
    same_numbers (map (λ (entry : PhiEntry). entry.from.0) entries) (incoming f b) && entries_agree kind entries
entries_fit f b _ = true

abbrev pub bad_entries : Function → List Place
bad_entries f = places_where (λ (spot : Spot). not (entries_fit f spot.block spot.instr.op)) f
