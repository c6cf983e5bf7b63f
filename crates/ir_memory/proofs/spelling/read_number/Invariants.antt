use Rattle.std.proofs.Common.{◌≡◌, ◌^◌, ◌<◌, ◌-◌, length, drop}
use Rattle.ir_memory.specs.Spelling.{spelled}
use Rattle.ir_memory.proofs.spelling.read_number.Given as goal

abbrev pub invariant-loop-i : goal.invariant-loop-i
invariant-loop-i l =
    (l.number ≡ spelled (drop l.i l.bytes)) × (l.number < 256 ^ (length l.bytes - l.i))
