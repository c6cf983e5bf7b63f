-- How the multiplications of a loop add up.
use Rattle.std.proofs.Common.{◌≡◌, ℕ, zero, suc, ◌+◌, ◌*◌, ◌≤◌, refl, arith, rules, tests}
use Rattle.std.proofs.lemmas.Nat.{mul-le}
use Rattle.scev_base.specs.Counting.{one_more}
use Rattle.binomial_eval.specs.Products.{after_steps, RisesAtMost}

-- no step
pub after_none : (count : ℕ) → after_steps 0 count ≡ count
unfolding after_steps
after_none count = refl

-- one more step
after_one : (steps count : ℕ) → after_steps (suc steps) count ≡ one_more (after_steps steps count)
unfolding after_steps
after_one steps count = refl

-- three steps of a loop
pub after_three : (old now place : ℕ) → now ≡ after_steps (3 * place) old
    → one_more (one_more (one_more now)) ≡ after_steps (3 * (place + 1)) old
after_three old now place so_far =
    let next : 3 * (place + 1) ≡ suc (suc (suc (3 * place))) = omega arith in
    rw (next, so_far, after_one, after_one, after_one) refl

-- one step raises the counter by at most one
one_more-rises : (count : ℕ) → RisesAtMost count (one_more count) 1
one_more-rises count = search (rules, tests)

-- so many steps raise it by at most so many
after_steps-rises : (steps count : ℕ) → RisesAtMost count (after_steps steps count) steps
unfolding after_steps
after_steps-rises zero count = (omega arith, omega arith)
after_steps-rises (suc steps) count =
    let before = after_steps-rises steps count in
    let last = one_more-rises (after_steps steps count) in
    (omega (arith, before, last), omega (arith, before, last))

-- three multiplications a part are at most four times the square of the number of parts
pub rises_at_most : (old new size : ℕ) → 1 ≤ size → new ≡ after_steps (3 * size) old
    → RisesAtMost old new (4 * (size * size))
rises_at_most old new size some counted =
    let rises = after_steps-rises (3 * size) old in
    let square : 1 * size ≤ size * size = mul-le 1 size size size some (omega arith) in
    rw counted (omega (arith, rises), omega (arith, rises, square))
