use Rattle.std.proofs.Common.{drop}
use Rattle.std.specs.List.{flat_map}
use Rattle.ir_rules.specs.Names.{block_definitions}
use Rattle.ir_check.proofs.DefinedSteps.{Continues}
use Rattle.ir_check.proofs.defined.define_blocks.Given as goal

abbrev pub invariant-loop-block : goal.invariant-loop-block
invariant-loop-block l =
    Continues l.initial.defined (flat_map block_definitions l.blocks) l.defined
    (flat_map block_definitions (drop l.block-index l.blocks))
