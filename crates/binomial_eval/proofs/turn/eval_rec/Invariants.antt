use Rattle.std.proofs.Common.{◌≡◌, ◌*◌, ◌%◌, ◌^◌}
use Rattle.binomial_eval.specs.Choose.{choose}
use Rattle.binomial_eval.specs.Factorial.{factorial}
use Rattle.binomial_eval.specs.Products.{after_steps}
use Rattle.binomial_eval.proofs.SumLemmas.{IsSumSoFar}
use Rattle.binomial_eval.proofs.turn.eval_rec.Given as goal

abbrev pub invariant-loop-k : goal.invariant-loop-k
invariant-loop-k g l = record {
  product : l.product ≡ (choose l.t l.k * factorial l.k) % 2 ^ 128;
  sum : IsSumSoFar l.w.bits l.k l.t l.sum l.parts;
  counted : l.steps ≡ after_steps (3 * l.k) l.initial.steps;
}
