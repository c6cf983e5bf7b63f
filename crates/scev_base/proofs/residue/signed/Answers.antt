use Rattle.std.proofs.Common.{◌^◌, ◌≤◌, w64, sym, ◌∙◌, arith}
use Rattle.std.proofs.lemmas.Int.{ints, to_z_pos}
use Rattle.std.proofs.Math.Pow.{pow_mono}
use Rattle.scev_base.proofs.ReadingLemmas.{reading_low, reading_high, sign_bit, modulus}
use Rattle.scev_base.proofs.residue.signed.Goals as goal

pub returns-then-n-get : goal.returns-then-n-get
returns-then-n-get c =
    let w = c.args.w.bits in
    let bit = sign_bit w c.get.result c.get.ensures (omega arith) (omega arith) in
    let most : 2 ^ w ≤ 2 ^ 64 = pow_mono {i = w} {j = 64} (omega arith) in
    to_z_pos w64 c.args.n (omega arith) ∙ sym (reading_low w c.args.n (omega arith))

pub returns-else-n-get : goal.returns-else-n-get
returns-else-n-get c =
    let w = c.args.w.bits in
    let bit = sign_bit w c.get.result c.get.ensures (omega arith) (omega arith) in
    let most : 2 ^ w ≤ 2 ^ 64 = pow_mono {i = w} {j = 64} (omega arith) in
    let whole = modulus w c.get-else-n-get.result c.get-else-n-get.ensures (omega arith) in
    let high = reading_high w c.args.n (omega arith) c.requires in
    omega (arith, ints)
