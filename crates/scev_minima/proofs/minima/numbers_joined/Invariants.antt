use Rattle.std.proofs.Common.{◌≡◌, ◌<◌, ◌^◌, drop, IfSome}
use Rattle.scev_forms.specs.Minima as forms
use Rattle.scev_sums.specs.Answers.{trees_at}
use Rattle.scev_minima.specs.Kinds.{kind_of}
use Rattle.scev_minima.proofs.minima.numbers_joined.Given as goal

abbrev pub invariant-loop-i : goal.invariant-loop-i
invariant-loop-i l = record {
  joined : l.found ≡ forms.numbers_joined (kind_of l.kind) l.w.bits (trees_at l.arena (drop l.i l.ids));
  fits : IfSome l.found (λ n. n < 2 ^ l.w.bits);
}
