use Rattle.std.proofs.Common.{◌≡◌, ◌==◌, drop, find}
use Rattle.ir_model.specs.declared.function.Block.{Block}
use Rattle.ir_model.proofs.place.first_block.Given as goal

abbrev pub invariant-loop-block : goal.invariant-loop-block
invariant-loop-block l =
    find (λ (block : Block). block.id.0 == l.b.0) (drop l.block-index l.blocks)
    ≡ find (λ (block : Block). block.id.0 == l.b.0) l.blocks
