use Rattle.std.proofs.Common.{◌≡◌, ℕ, suc, ◌+◌, ◌-◌, ap, ◌∙◌, arith}
use Rattle.ir_parts.specs.Reading.{left_from, go_on}
use Rattle.ir_parts.specs.TypeReading.{closings_at}
use Rattle.ir_parts.proofs.types.closings.Goals as goal

pub loop-i-preserved : goal.loop-i-preserved
unfolding closings_at
loop-i-preserved c =
    let turns : c.args.count - c.loop-i._i ≡ suc (c.args.count - (c.loop-i._i + 1)) = omega arith in
    record {
      reading = c.loop-i.invariant.reading
          ∙ (ap (λ (n : ℕ). closings_at n (left_from c.args.tokens.now c.loop-i.at)) turns
          ∙ ap (λ r. go_on r (λ _. closings_at (c.args.count - (c.loop-i._i + 1)))) c.in_ok-at.ensures.value);
      forth = omega (arith, c.in_ok-at.ensures.forth, c.loop-i.invariant.forth);
      within = c.in_ok-at.ensures.forth.1;
    }
