use Rattle.std.proofs.Common.{◌≡◌, ◌+◌, ◌*◌, ◌%◌, ◌^◌, ◌≤◌, ap, ◌∙◌, arith, ℕ}
use Rattle.std.proofs.Math.Pow.{pow_mono}
use Rattle.std.proofs.lemmas.Nat.{one_shl}
use Rattle.binomial_eval.specs.Choose.{choose}
use Rattle.binomial_eval.specs.Factorial.{factorial}
use Rattle.binomial_eval.proofs.FactorialLemmas.{IsProduct, quotient_below, coefficient_of}
use Rattle.binomial_eval.proofs.turn.coefficient.Goals as goal

-- the modulus as the code computes it
modulus : (shift w twos : ℕ) → shift ≡ w → w ≤ 64 → twos ≤ 7 → (1 * 2 ^ (shift + twos)) % 2 ^ 128 ≡ 2 ^ (w + twos)
modulus shift w twos same fits few =
    rw same (one_shl (w + twos) 128 (omega arith))

-- the factorial by its parts
split : (c odd twos whole : ℕ) → 2 ^ twos * odd ≡ whole → c * whole ≡ 2 ^ twos * (odd * c)
split c odd twos whole e = omega (arith, ap (λ (n : ℕ). c * n) e)

pub overflow_cast-quotient-3 : goal.overflow_cast-quotient-3
overflow_cast-quotient-3 g c =
    let twos = c.factorial_parts-parts.result.twos in
    let w = c.args.w.bits in
    let same = modulus c.get.result w twos c.get.ensures (omega arith) c.factorial_parts-parts.ensures.few in
    let below = quotient_below w twos c.args.product in
    let most : 2 ^ w ≤ 2 ^ 64 = pow_mono {i = w} {j = 64} (omega arith) in
    rw same (omega (arith, below, most))

pub returns-clause-value : goal.returns-clause-value
returns-clause-value g c =
    λ t h.
    let parts = c.factorial_parts-parts in
    let twos = parts.result.twos in
    let odd = parts.result.odd in
    let inverse = parts.result.inverse in
    let w = c.args.w.bits in
    let number = choose t c.args.k in
    let same = modulus c.get.result w twos c.get.ensures (omega arith) parts.ensures.few in
    let factored = split number odd twos (factorial c.args.k) parts.ensures.whole in
    let known : IsProduct w twos odd inverse 128 number c.args.product = record {
      split = h ∙ ap (λ (n : ℕ). n % 2 ^ 128) factored;
      undone = parts.ensures.inverse;
      known = omega (arith, parts.ensures.few);
    } in
    let value = coefficient_of w twos odd inverse 128 number c.args.product (omega arith) (omega arith) known in
    (rw same at c.trunc.ensures.value) ∙ value
