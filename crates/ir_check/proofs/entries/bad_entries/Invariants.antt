use Rattle.std.proofs.Common.{◌≡◌, drop, flat_map, slice_get}
use Rattle.ir_check.proofs.BadEntries.{places_in}
use Rattle.ir_check.proofs.entries.bad_entries.Given as goal

abbrev pub invariant-loop-block : goal.invariant-loop-block
invariant-loop-block l = slice_get (flat_map (places_in l.f) (drop l.block-index l.block-items)) 0
    ≡ slice_get (flat_map (places_in l.f) l.block-items) 0
