use Rattle.std.proofs.Common.{◌≡◌, map, take, replicate, length}
use Rattle.classify.specs.declared.tally.Often.TheVariants.{Never}
use Rattle.classify.specs.Tally.{all_counted}
use Rattle.classify.proofs.names.defined_labels.Given as goal

abbrev pub invariant-loop-block : goal.invariant-loop-block
invariant-loop-block l = l.defined ≡ all_counted (replicate (length l.f.labels) Never) (map (λ block. block.id.0) (take l.block-index l.f.blocks))
