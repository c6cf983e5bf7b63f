-- The tables by which the uses of a function are looked at.
use Rattle.std.specs.Prelude.{◌≡◌, ◌↔◌, ◌<◌, ℕ, Bool, List, Option, Some, None, All, length, map, slice_get}
use Rattle.std.specs.Prelude.{if◌then◌else◌}
use Rattle.scev_base.specs.declared.ids.BlockId.{BlockId}
use Rattle.ir_model.specs.declared.op.PhiEntry.{PhiEntry}
use Rattle.ir_model.specs.declared.function.Instr.{Instr}
use Rattle.ir_model.specs.declared.function.Function.{Function}
use Rattle.ir_model.specs.Places.{is_param, given_at}
use Rattle.ir_model.specs.Shapes.{register_of, result_of, entry}
use Rattle.ir_model.specs.WellMade.{HasIds}
use Rattle.flow_graph.specs.Graph.{IsMarked}
use Rattle.flow_graph.specs.EntryWalks.{EntryParts, AreEntryWalksOf}
use Rattle.flow_graph.specs.Flow.{LeadsPast}
use Rattle.ir_rules.specs.Uses.{Use, size_of}
use Rattle.ssa_check.specs.declared.definitions.Definition.{Definition}
use Rattle.ssa_check.specs.declared.definitions.Definition.TheVariants.{Nowhere, Parameter, At}
use Rattle.ssa_check.specs.declared.reads.Spot.{Spot}

-- ---- uses

-- the use of a value at a place
abbrev pub use_at : Spot → ℕ → Use
use_at spot v = record { value = v; user = spot.user.0; block = spot.block.0; index = spot.index }

-- what a phi's entry uses
abbrev pub entry_uses : Function → ℕ → PhiEntry → List Use
entry_uses f b entry =
    map (λ v. record { value = v; user = b; block = entry.from.0; index = size_of f entry.from.0 })
    (register_of entry.value)

-- ---- definitions

abbrev pub at_place : Option (BlockId × ℕ) → Definition
at_place None = Nowhere
at_place (Some (b, i)) = At b i

-- where a value is first defined
abbrev pub definition_of : Function → ℕ → Definition
definition_of f v = if is_param f.params v then Parameter else at_place (given_at f.blocks v)

-- The results of instructions are below a bound.
abbrev pub AreWithin : ℕ → List Instr → Type 0
AreWithin bound instrs = All (λ (instr : Instr). All (λ v. v < bound) (result_of instr.result)) instrs

-- ---- walks past a block

-- A row has the marks of the blocks to which walks from the entry lead past a block.
abbrev pub AreMarksPast : Function → ℕ → List Bool → Type 0
AreMarksPast f d row = (b : ℕ) → IsMarked row b ↔ LeadsPast f d (entry f.blocks) b

-- The walks of a function with its ids, and for some of its blocks such rows.
pub record AreTables (f : Function) (walks : EntryParts) (rows : List (Option (List Bool))) : Type 0 where
  pub ids : HasIds f
  pub is : AreEntryWalksOf f walks
  pub size : length rows ≡ length f.labels
  pub marks : (d : ℕ) (row : List Bool) → slice_get rows d ≡ Some (Some row) → AreMarksPast f d row
