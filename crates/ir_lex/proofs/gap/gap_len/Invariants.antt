use Rattle.std.proofs.Common.{◌≡◌, ◌+◌, false, drop}
use Rattle.ir_lex.specs.Gap.{gap_len}
use Rattle.ir_lex.proofs.gap.gap_len.Given as goal

-- the count so far and the count of what is left make the whole
abbrev pub invariant-loop-at : goal.invariant-loop-at
invariant-loop-at l = l.at + gap_len l.commented (drop l.at l.bytes) ≡ gap_len false l.bytes
