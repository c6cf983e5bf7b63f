use Rattle.std.proofs.Common.{◌≡◌, flat_map, take}
use Rattle.ir_model.specs.declared.function.Block.{Block}
use Rattle.ir_rules.specs.Uses.{uses_from}
use Rattle.ssa_check.proofs.reads.reads.Given as goal

abbrev pub invariant-loop-block : goal.invariant-loop-block
invariant-loop-block l =
    l.out ≡ flat_map (λ (block : Block). uses_from l.sizes block.id.0 0 block.instrs)
    (take l.block-index l.sizes.blocks)
