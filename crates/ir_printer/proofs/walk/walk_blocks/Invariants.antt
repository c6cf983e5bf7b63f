use Rattle.std.proofs.Common.{◌≡◌, take, fold}
use Rattle.std.specs.List.{flat_map}
use Rattle.ir_model.specs.Sites.{block_sites}
use Rattle.ir_printer.specs.Counting.{counted}
use Rattle.ir_printer.proofs.walk.walk_blocks.Given as goal

abbrev pub invariant-loop-block : goal.invariant-loop-block
invariant-loop-block l = l.numbers
    ≡ fold (counted l.uses) l.initial.numbers (flat_map block_sites (take l.block-index l.blocks))
