use Rattle.std.proofs.Common.{◌≡◌, take, replicate, length}
use Rattle.std.specs.Prelude.{flat_map}
use Rattle.classify.specs.declared.tally.Often.TheVariants.{Never}
use Rattle.ir_model.specs.Shapes.{operands, register_of, instructions}
use Rattle.classify.specs.Tally.{all_counted}
use Rattle.classify.proofs.names.used_registers.Given as goal

abbrev pub invariant-loop-block : goal.invariant-loop-block
invariant-loop-block l = l.used ≡ all_counted (replicate (length l.f.values) Never) (flat_map (λ instr. flat_map register_of (operands instr.op)) (instructions (take l.block-index l.f.blocks)))
