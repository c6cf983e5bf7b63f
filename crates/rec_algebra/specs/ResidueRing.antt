-- The residues modulo 2^w are a commutative semiring.
use Rattle.std.proofs.Common.{ℕ, ◌+◌, ◌*◌, ◌%◌, ◌^◌, ◌<◌, sym, ap, ◌∙◌, add_assoc}
use Rattle.std.proofs.Math.Nat.{mod-add-mod, add-mod-mod, add-mod, add_comm, mul_comm, mul_assoc, mul-add}
use Rattle.std.proofs.Math.Pow.{pow_pos}
use Rattle.std.proofs.lemmas.Nat.{mul-mod_first, mul-mod_second, mod_below}
use Rattle.rec_algebra.specs.Semiring.{IsSemiring}

pub residue_semiring : (w : ℕ) → IsSemiring (λ n. n < 2 ^ w) (λ x y. (x + y) % 2 ^ w) (λ x y. (x * y) % 2 ^ w)
residue_semiring w = record {
  plus_closed = λ x y hx hy. mod_below (x + y) (2 ^ w) (pow_pos w);
  times_closed = λ x y hx hy. mod_below (x * y) (2 ^ w) (pow_pos w);
  plus_assoc = λ x y z hx hy hz. mod-add-mod (x + y) (2 ^ w) z ∙ ap (λ n. n % 2 ^ w) (add_assoc x y z) ∙ sym (add-mod-mod x (y + z) (2 ^ w));
  plus_comm = λ x y hx hy. ap (λ n. n % 2 ^ w) (add_comm x y);
  times_assoc = λ x y z hx hy hz. mul-mod_first (x * y) z (2 ^ w) ∙ ap (λ n. n % 2 ^ w) (mul_assoc x y z) ∙ sym (mul-mod_second x (y * z) (2 ^ w));
  times_comm = λ x y hx hy. ap (λ n. n % 2 ^ w) (mul_comm x y);
  distributes = λ x y z hx hy hz. mul-mod_second x (y + z) (2 ^ w) ∙ ap (λ n. n % 2 ^ w) (mul-add x y z) ∙ add-mod (x * y) (x * z) (2 ^ w);
}
