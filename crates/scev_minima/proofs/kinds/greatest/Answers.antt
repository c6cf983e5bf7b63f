use Rattle.std.proofs.Common.{◌≡◌, ℕ, ◌-◌, ◌*◌, ◌%◌, ◌^◌, ◌<◌, ◌≤◌, ◌∙◌, arith}
use Rattle.std.proofs.Math.Nat.{mod-eq_of_lt}
use Rattle.std.proofs.lemmas.Nat.{pow_pos}
use Rattle.scev_base.proofs.Congruence.{mod_same, pow_split}
use Rattle.scev_minima.proofs.kinds.greatest.Goals as goal

-- the lowest bits of 2^64 - 1 are all set
all_set : (w : ℕ) → w ≤ 64 → (2 ^ 64 - 1) % 2 ^ w ≡ 2 ^ w - 1
all_set w small =
    let m = 2 ^ w in
    let some : 0 < m = pow_pos w in
    let split : 2 ^ 64 ≡ m * 2 ^ (64 - w) = pow_split w 64 small in
    mod_same (2 ^ 64 - 1) (m - 1) m 1 (2 ^ (64 - w)) (omega arith) ∙ mod-eq_of_lt (omega arith)

pub returns : goal.returns
returns c = c.trunc.ensures.value ∙ all_set c.args.w.bits c.args.w.at_most_64
