-- Rules on names: each is defined once, and what is used is defined.
use Rattle.std.specs.Prelude.{ℕ, ◌==◌, Bool, false, List, [], ◌∷◌, ◌++◌, Option, Some, None, map, flat_map, nat_lt, if◌then◌else◌}
use Rattle.std.specs.List.{list_any}
use Rattle.scev_base.specs.declared.ids.ValueId.{ValueId}
use Rattle.ir_model.specs.declared.function.Param.{Param}
use Rattle.ir_model.specs.declared.function.Instr.{Instr}
use Rattle.ir_model.specs.declared.function.Block.{Block}
use Rattle.ir_model.specs.declared.function.Function.{Function}
use Rattle.ir_model.specs.declared.signature.Signatures.{Signatures}
use Rattle.ir_model.specs.declared.rule.Place.{Place}
use Rattle.ir_model.specs.declared.rule.Place.TheVariants.{Value, BlockAt, UseIn}
use Rattle.ir_model.specs.Shapes.{defined_values, defined_blocks}
use Rattle.ir_model.specs.Sites.{Site, UsesValue, UsesBlock, UsesGlobal, op_sites}
use Rattle.ir_rules.specs.Spots.{Spot, spots, place, repeated}

-- ---- a name is defined twice: at the place where it is defined again

abbrev pub same_place : Place → Place → Bool
same_place (Value v) (Value w) = v.0 == w.0
same_place (BlockAt b) (BlockAt c) = b.0 == c.0
same_place _ _ = false

abbrev pub result_place : Option ValueId → List Place
result_place None = []
result_place (Some v) = Value v ∷ []

-- what is defined, in text order: parameters, and then each block with the results of its instructions
abbrev pub block_definitions : Block → List Place
block_definitions block = BlockAt block.id ∷ flat_map (λ (instr : Instr). result_place instr.result) block.instrs

abbrev pub definitions : Function → List Place
definitions f = map (λ (p : Param). Value p.value) f.params ++ flat_map block_definitions f.blocks

abbrev pub duplicate_names : Function → List Place
duplicate_names f = repeated same_place [] (definitions f)

-- ---- a used value, label or global isn't defined: a value at its use, a label where its block is missing

abbrev pub unless : Bool → Place → List Place
unless holds at = if holds then [] else at ∷ []

abbrev pub undefined_at : Signatures → Function → Spot → Site → List Place
undefined_at signatures f spot (UsesValue v) =
    unless (list_any (λ w. w == v) (defined_values f)) (UseIn (record { 0 = v }) (record { 0 = spot.block }))
undefined_at signatures f spot (UsesBlock b) =
    unless (list_any (λ c. c == b) (defined_blocks f)) (BlockAt (record { 0 = b }))
undefined_at signatures f spot (UsesGlobal g) = unless (nat_lt g signatures.globals) (place spot)
undefined_at signatures f spot _ = []

abbrev pub undefined_names : Signatures → Function → List Place
undefined_names signatures f =
    flat_map (λ (spot : Spot). flat_map (undefined_at signatures f spot) (op_sites spot.instr.op)) (spots f)
