use Rattle.std.proofs.Common.{◌≡◌, ◌≤◌, ◌-◌, [], ◌∷◌, length, reverse}
use Rattle.ir_parts.specs.Reading.{left_from}
use Rattle.ir_parts.specs.BracketsReading.{closed_at}
use Rattle.ir_parts.proofs.brackets.behind_brackets.Given as goal

abbrev pub invariant-loop-kind : goal.invariant-loop-kind
invariant-loop-kind l = record {
  reading : closed_at (l.closing ∷ []) (left_from l.tokens l.from) ≡ closed_at (reverse l.waited) (left_from l.tokens
      l.at);
  forth : l.from ≤ l.at;
  within : l.at ≤ length l.tokens.tokens;
  first : l.from ≡ l.at → l.waited ≡ l.closing ∷ [];
}

abbrev pub decreases-loop-kind : goal.decreases-loop-kind
decreases-loop-kind l = length l.tokens.tokens - l.at
