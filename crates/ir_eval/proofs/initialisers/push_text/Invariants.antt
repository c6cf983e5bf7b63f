use Rattle.std.proofs.Common.{map, take}
use Rattle.ir_memory.specs.declared.byte.Byte.TheVariants as byte
use Rattle.ir_eval.specs.Parts.{GoesOn}
use Rattle.ir_eval.proofs.initialisers.push_text.Given as goal

abbrev pub invariant-loop-byte : goal.invariant-loop-byte
invariant-loop-byte l = GoesOn l.initial.out.items l.out.items (map byte.Number (take l.byte-index l.text))
