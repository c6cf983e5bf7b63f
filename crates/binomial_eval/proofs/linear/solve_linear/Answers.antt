use Rattle.std.proofs.Common.{◌*◌, ◌-◌, ◌/◌, ◌^◌, w64, ◌∙◌, arith}
use Rattle.std.specs.Int.{trailing_zeros}
use Rattle.std.proofs.lemmas.Nat.{one_shl}
use Rattle.scev_base.proofs.Congruence.{mod-mod_pow}
use Rattle.binomial_eval.proofs.LinearLemmas.{IsFactored, trailing_split, least_solution, no_solution, no_solution_of_zero}
use Rattle.binomial_eval.proofs.linear.solve_linear.Goals as goal

pub returns-else-product-eq0-clause-none : goal.returns-else-product-eq0-clause-none
returns-else-product-eq0-clause-none c =
    λ t. no_solution_of_zero c.args.b c.args.d c.args.w.bits c.trunc-factor.result c.trunc-product.result t c.trunc-factor.ensures.value c.trunc-product.ensures.value c.if-factor-eq0.true c.if-product-eq0.false

pub returns-then-product-twos-ne0-clause-none : goal.returns-then-product-twos-ne0-clause-none
returns-then-product-twos-ne0-clause-none c =
    let factor = c.trunc-factor.result in
    let w = c.args.w.bits in
    let e = trailing_zeros w64 factor in
    let parts = trailing_split w factor c.args.w.at_most_64 c.if-factor-eq0.false c.trunc-factor.ensures.below in
    let power = one_shl e 64 (omega (arith, parts.fewer)) in
    let h : IsFactored w e (w - e) factor (factor / 2 ^ e) = record { places = omega (arith, parts.fewer); split = parts.split } in
    λ t. no_solution c.args.b c.args.d w factor c.trunc-product.result e (w - e) (factor / 2 ^ e) t c.trunc-factor.ensures.value c.trunc-product.ensures.value h (rw power at c.if-product-twos-ne0.true)

pub overflow_sub-period : goal.overflow_sub-period
overflow_sub-period c =
    let parts = trailing_split c.args.w.bits c.trunc-factor.result c.args.w.at_most_64 c.if-factor-eq0.false c.trunc-factor.ensures.below in
    omega (arith, parts.fewer, c.get.ensures)

pub invariant_of-period : goal.invariant_of-period
invariant_of-period c =
    let parts = trailing_split c.args.w.bits c.trunc-factor.result c.args.w.at_most_64 c.if-factor-eq0.false c.trunc-factor.ensures.below in record {
      at_least_one = omega (arith, parts.fewer, c.get.ensures);
      at_most_64 = omega (arith, c.get.ensures, c.args.w.at_most_64);
    }

pub inverse_odd-inverse-requires : goal.inverse_odd-inverse-requires
inverse_odd-inverse-requires c =
    let parts = trailing_split c.args.w.bits c.trunc-factor.result c.args.w.at_most_64 c.if-factor-eq0.false c.trunc-factor.ensures.below in
    parts.odd

pub returns-clause-least : goal.returns-clause-least
returns-clause-least c =
    let factor = c.trunc-factor.result in
    let product = c.trunc-product.result in
    let inverse = c.inverse_odd-inverse.result in
    let w = c.args.w.bits in
    let e = trailing_zeros w64 factor in
    let n = c.get.result - e in
    let parts = trailing_split w factor c.args.w.at_most_64 c.if-factor-eq0.false c.trunc-factor.ensures.below in
    let power = one_shl e 64 (omega (arith, parts.fewer)) in
    let h : IsFactored w e n factor (factor / 2 ^ e) = record { places = omega (arith, parts.fewer, c.get.ensures); split = parts.split } in
    let result = c.trunc.ensures.value ∙ mod-mod_pow (product / 2 ^ e * inverse) n 64 (omega (arith, c.get.ensures)) in
    rw result
    (least_solution c.args.b c.args.d w factor product e n (factor / 2 ^ e) inverse c.trunc-factor.ensures.value c.trunc-product.ensures.value h c.inverse_odd-inverse.ensures.inverse (rw power at c.if-product-twos-ne0.false))
