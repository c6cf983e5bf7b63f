use Rattle.std.proofs.Common.{◌≡◌, take}
use Rattle.natural_loops.proofs.Listing.{marked_of}
use Rattle.natural_loops.proofs.listed.listed.Given as goal

abbrev pub invariant-loop-block : goal.invariant-loop-block
invariant-loop-block l = l.found ≡ marked_of l.marks (take l.block-index l.block-items)
