use Rattle.std.proofs.Common.{◌≡◌, ◌++◌, map, take, replicate, length}
use Rattle.std.specs.Prelude.{flat_map}
use Rattle.classify.specs.declared.tally.Often.TheVariants.{Never}
use Rattle.ir_model.specs.Shapes.{result_of, instructions}
use Rattle.classify.specs.Tally.{all_counted}
use Rattle.classify.proofs.names.defined_registers.Given as goal

abbrev pub invariant-loop-param : goal.invariant-loop-param
invariant-loop-param l = l.defined ≡ all_counted (replicate (length l.f.values) Never) (map (λ p. p.value.0) (take l.param-index l.f.params))

abbrev pub invariant-loop-block : goal.invariant-loop-block
invariant-loop-block l = l.defined ≡ all_counted (replicate (length l.f.values) Never) (map (λ p. p.value.0) l.f.params ++ flat_map (λ instr. result_of instr.result) (instructions (take l.block-index l.f.blocks)))
