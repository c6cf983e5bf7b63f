use Rattle.std.proofs.Common.{◌≡◌, map, take}
use Rattle.scev_base.specs.declared.ids.BlockId.{BlockId}
use Rattle.ir_check.proofs.entries.sorted.Given as goal

abbrev pub invariant-loop-block : goal.invariant-loop-block
invariant-loop-block l = l.sorted.items ≡ map (λ (b : BlockId). b.0) (take l.block-index l.blocks)
