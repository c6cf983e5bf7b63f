-- Phis among some instructions whose entries aren't the edges into their blocks.
use Rattle.std.specs.Prelude.{ℕ, not, List, map, filter}
use Rattle.ir_model.specs.declared.op.PhiEntry.{PhiEntry}
use Rattle.ir_model.specs.declared.function.Function.{Function}
use Rattle.ir_model.specs.declared.rule.Place.{Place}
use Rattle.ir_rules.specs.Spots.{Spot, place}
use Rattle.ir_rules.specs.Blocks.{entries_fit}

-- the blocks that entries name
abbrev pub named_blocks : List PhiEntry → List ℕ
named_blocks entries = map (λ (entry : PhiEntry). entry.from.0) entries

-- the places of such phis
abbrev pub bad_places : Function → List Spot → List Place
bad_places f spots = map place (filter (λ (spot : Spot). not (entries_fit f spot.block spot.instr.op)) spots)
