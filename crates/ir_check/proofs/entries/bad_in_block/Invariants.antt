use Rattle.std.proofs.Common.{◌≡◌, drop, flat_map, slice_get}
use Rattle.ir_model.specs.declared.function.Function.{Function}
use Rattle.flow_graph.specs.EdgeLists.{AreEdgesOf}
use Rattle.ir_check.proofs.BadEntries.{places_at}
use Rattle.ir_check.proofs.entries.bad_in_block.Given as goal

abbrev pub invariant-loop-instr : goal.invariant-loop-instr
invariant-loop-instr l = (f : Function) → AreEdgesOf f l.edges
    → slice_get (flat_map (places_at f l.block.id.0) (drop l.instr-index l.instr-items)) 0
    ≡ slice_get (flat_map (places_at f l.block.id.0) l.instr-items) 0
