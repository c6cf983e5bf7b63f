use Rattle.std.proofs.Common.{◌≡◌, drop, slice_get}
use Rattle.std.specs.List.{flat_map}
use Rattle.ir_model.specs.declared.function.Block.{Block}
use Rattle.ir_rules.specs.Blocks.{late_phis}
use Rattle.ir_check.specs.Instrs.{late_places}
use Rattle.ir_check.proofs.edges.late_phi.Given as goal

abbrev pub invariant-loop-block : goal.invariant-loop-block
invariant-loop-block l =
    slice_get (flat_map (λ (block : Block). late_places block.id.0 block.instrs) (drop l.block-index l.f.blocks)) 0
    ≡ slice_get (late_phis l.f) 0
