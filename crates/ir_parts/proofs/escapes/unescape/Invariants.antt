use Rattle.std.proofs.Common.{◌≡◌, ◌++◌, length}
use Rattle.ir_text.specs.Written.{unescaped}
use Rattle.ir_parts.proofs.escapes.unescape.Given as goal

abbrev pub invariant-loop-byte : goal.invariant-loop-byte
invariant-loop-byte l = l.bytes ++ unescaped l.rest ≡ unescaped l.fn.text

abbrev pub decreases-loop-byte : goal.decreases-loop-byte
decreases-loop-byte l = length l.rest
