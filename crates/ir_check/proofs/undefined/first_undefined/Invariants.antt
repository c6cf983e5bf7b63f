use Rattle.std.proofs.Common.{◌≡◌, drop, slice_get}
use Rattle.std.specs.List.{flat_map}
use Rattle.ir_check.specs.Undefined.{undefined_block}
use Rattle.ir_check.proofs.undefined.first_undefined.Given as goal

abbrev pub invariant-loop-block : goal.invariant-loop-block
invariant-loop-block l =
    slice_get (flat_map (undefined_block l.defined l.globals) (drop l.block-index l.f.blocks)) 0
    ≡ slice_get (flat_map (undefined_block l.defined l.globals) l.f.blocks) 0
