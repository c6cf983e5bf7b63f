use Rattle.std.proofs.Common.{◌*◌, ◌%◌, ◌^◌, min, ◌∙◌, ap, arith}
use Rattle.scev_base.proofs.Congruence.{one_mod, cut_factor, newton_round, odd_square}
use Rattle.scev_base.proofs.residue.inverse_odd.Goals as goal

pub loop-right-init : goal.loop-right-init
loop-right-init c = record { started = omega arith; inverse = odd_square c.args.n c.requires }

pub loop-right-preserved : goal.loop-right-preserved
loop-right-preserved c = record {
  started = omega arith;
  inverse = newton_round c.args.n c.loop-right.inverse 64 (min c.loop-right.right 64) (min (c.loop-right.right * 2) 64) (omega arith) (omega arith) (omega arith) c.loop-right.invariant.inverse;
}

pub returns-clause-inverse : goal.returns-clause-inverse
returns-clause-inverse c =
    let w = c.args.w.bits in
    ap (λ t. c.args.n * t % 2 ^ w) c.trunc.ensures.value ∙ cut_factor c.args.n c.loop-right.inverse w w (omega arith) ∙ one_mod (c.args.n * c.loop-right.inverse) w (min c.loop-right.right 64) (omega arith) (omega arith) c.loop-right.invariant.inverse
