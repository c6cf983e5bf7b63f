use Rattle.std.proofs.Common.{take}
use Rattle.classify.specs.Definitions.{TellFirst}
use Rattle.classify.proofs.first_phis.tell_first.Given as goal

abbrev pub invariant-loop-block : goal.invariant-loop-block
invariant-loop-block l = TellFirst (take l.block-index l.blocks) l.first.items
