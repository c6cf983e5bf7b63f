use Rattle.std.proofs.Common.{◌≤◌, ◌+◌, ◌-◌, vec_len}
use Rattle.scev_outside.specs.Bytes.{Gave}
use Rattle.scev_outside.proofs.reading.read_all.Given as goal

abbrev pub invariant-loop-bytes : goal.invariant-loop-bytes
invariant-loop-bytes g l = record {
  short : vec_len l.bytes ≤ l.limit;
  gave : Gave (g.S.Source.left l.initial.source) l.bytes.items (g.S.Source.left l.source);
  count : g.S.Source.faults l.initial.source ≤ g.S.Source.faults l.source;
}

abbrev pub decreases-loop-bytes : goal.decreases-loop-bytes
decreases-loop-bytes g l = l.limit + 1 - vec_len l.bytes
