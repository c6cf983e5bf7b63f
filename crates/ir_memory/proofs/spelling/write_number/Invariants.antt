use Rattle.std.proofs.Common.{◌≡◌, ◌++◌, ◌-◌, length, take}
use Rattle.ir_memory.specs.Spelling.{number_bytes}
use Rattle.ir_memory.proofs.spelling.write_number.Given as goal

abbrev pub invariant-loop-byte : goal.invariant-loop-byte
invariant-loop-byte l =
    number_bytes (length l.bytes) l.number
    ≡ take l.byte-index l.bytes ++ number_bytes (length l.bytes - l.byte-index) l.rest
