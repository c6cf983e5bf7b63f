use Rattle.std.proofs.Common.{map}
use Rattle.ir_model.specs.declared.function.Block.{Block}
use Rattle.natural_loops.proofs.Regions.{AreLoopsTo}
use Rattle.natural_loops.proofs.region.regions.Given as goal

abbrev pub invariant-loop-block : goal.invariant-loop-block
invariant-loop-block l =
    AreLoopsTo l.c.function (map (λ (block : Block). block.id) l.c.function.blocks) l.block-index l.found
