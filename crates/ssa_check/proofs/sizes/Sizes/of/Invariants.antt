use Rattle.std.proofs.Common.{drop}
use Rattle.ssa_check.proofs.SizeLemmas.{HasSizes}
use Rattle.ssa_check.proofs.sizes.Sizes.of.Given as goal

abbrev pub invariant-loop-i : goal.invariant-loop-i
invariant-loop-i l = HasSizes l.f (drop l.i l.blocks) l.sizes.items
