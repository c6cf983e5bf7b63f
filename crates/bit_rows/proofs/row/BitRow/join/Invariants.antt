use Rattle.std.proofs.Common.{◌≡◌}
use Rattle.std.specs.Prelude.{bit_or}
use Rattle.bit_rows.proofs.BitLemmas.{IsMerged}
use Rattle.bit_rows.proofs.row.BitRow.join.Given as goal

abbrev pub invariant-loop-k : goal.invariant-loop-k
invariant-loop-k l = record {
  count : l.self-inside.count ≡ l.initial.self-inside.count;
  merged : IsMerged bit_or l.initial.self-inside.words.items l.other-inside.words.items l.self-inside.words.items l.k;
}
