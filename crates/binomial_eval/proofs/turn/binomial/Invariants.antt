use Rattle.std.proofs.Common.{◌≡◌, ◌*◌, ◌%◌, ◌^◌}
use Rattle.binomial_eval.specs.Choose.{choose}
use Rattle.binomial_eval.specs.Factorial.{factorial}
use Rattle.binomial_eval.proofs.turn.binomial.Given as goal

abbrev pub invariant-loop-k : goal.invariant-loop-k
invariant-loop-k g l = l.product ≡ (choose l.t l.k * factorial l.k) % 2 ^ 128
