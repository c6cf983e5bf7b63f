use Rattle.std.proofs.Common.{◌≡◌, take}
use Rattle.ir_names.proofs.globals.copied_texts.Given as goal

abbrev pub invariant-loop-name : goal.invariant-loop-name
invariant-loop-name l = l.copies ≡ take l.name-index l.names
