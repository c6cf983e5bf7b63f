use Rattle.std.proofs.Common.{◌≡◌, ◌<◌, ◌^◌, take}
use Rattle.std.specs.Str.Parse.{digits_value}
use Rattle.ir_parts.proofs.numbers.small_number.Given as goal

abbrev pub invariant-loop-byte : goal.invariant-loop-byte
invariant-loop-byte l = record {
  so_far : l.size ≡ digits_value 10 (take l.byte-index l.digits);
  small : l.size < 2 ^ 64;
}
