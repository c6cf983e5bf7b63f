use Rattle.std.proofs.Common.{◌%◌, ◌^◌, ap, ◌∙◌}
use Rattle.std.proofs.Math.Nat.{add_comm}
use Rattle.poly_terms.specs.Terms.{coefficient_of}
use Rattle.poly_terms.proofs.laws.sum_commutes.Goals as goal

pub returns : goal.returns
returns c bits left right pairs h monomial =
    h monomial ∙ ap (λ k. k % 2 ^ bits) (add_comm (coefficient_of left monomial) (coefficient_of right monomial))
