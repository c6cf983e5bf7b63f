use Rattle.std.proofs.Common.{take}
use Rattle.ir_eval.specs.Parts.{GoesOn, all_bytes}
use Rattle.ir_eval.proofs.initialisers.+filling.Given as goal

abbrev pub invariant-push_parts-loop-part : goal.invariant-push_parts-loop-part
invariant-push_parts-loop-part l = GoesOn l.initial.out.items l.out.items (all_bytes (take l.part-index l.parts))
