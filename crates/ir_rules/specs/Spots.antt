-- The instructions of a function in text order, and the places that a refusal names.
use Rattle.std.specs.Prelude.{ℕ, Bool, List, [], ◌∷◌, Option, Some, None, map, flat_map, filter, if◌then◌else◌}
use Rattle.std.specs.List.{list_any}
use Rattle.scev_base.specs.declared.ids.ValueId.{ValueId}
use Rattle.ir_model.specs.declared.function.Instr.{Instr}
use Rattle.ir_model.specs.declared.function.Block.{Block}
use Rattle.ir_model.specs.declared.function.Function.{Function}
use Rattle.ir_model.specs.declared.rule.Place.{Place}
use Rattle.ir_model.specs.declared.rule.Place.TheVariants.{Value, BlockAt}

-- an instruction, and the number of its block
pub record Spot : Type 0 where
  pub block : ℕ
  pub instr : Instr

abbrev pub block_spots : Block → List Spot
block_spots block = map (λ (instr : Instr). record { block = block.id.0; instr = instr }) block.instrs

-- all instructions, in text order
abbrev pub spots : Function → List Spot
spots f = flat_map block_spots f.blocks

-- an instruction's own place: its result, or its block where it has none
abbrev pub named_by : ℕ → Option ValueId → Place
named_by block None = BlockAt (record { 0 = block })
named_by block (Some v) = Value v

abbrev pub place : Spot → Place
place spot = named_by spot.block spot.instr.result

-- the places of the instructions that break a rule
abbrev pub places_where : (Spot → Bool) → Function → List Place
places_where breaks f = map place (filter breaks (spots f))

-- the members of a list that stand before in it, too; or before it, among others
abbrev pub repeated : {A : Type 0} → (A → A → Bool) → List A → List A → List A
repeated same before [] = []
repeated same before (x ∷ xs) =
    if list_any (same x) before then x ∷ repeated same (x ∷ before) xs else repeated same (x ∷ before) xs
