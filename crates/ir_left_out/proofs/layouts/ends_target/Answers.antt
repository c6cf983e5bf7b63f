use Rattle.std.proofs.Common.{ℕ, ◌-◌, Ok, ap, sym, ◌∙◌, arith}
use Rattle.std.proofs.lemmas.Bool.{eqb-true, eq-eqb}
use Rattle.ir_parts.specs.Reading.{left_from}
use Rattle.ir_left_out.proofs.EndsIn.{same_place}
use Rattle.ir_left_out.proofs.TargetFound.{target_there, target_length, target_back}
use Rattle.ir_left_out.proofs.layouts.ends_target.Goals as goal

pub returns-then-at-lt3 : goal.returns-then-at-lt3
returns-then-at-lt3 c = (
  λ h. absurd cc,
  λ ends. absurd (omega (arith, target_length c.args.tokens.now c.args.at c.requires ends)),
)

pub returns-in-Ok : goal.returns-in-Ok
returns-in-Ok c =
    let t = c.args.tokens.now in (
      λ same.
          target_there t (c.args.at - 3) c.args.at
          (c.in-Ok.ensures.value
          ∙ ap (λ (n : ℕ). Ok (tt, left_from t n)) (eqb-true c.in-Ok.behind c.args.at same)),
      λ ends.
          eq-eqb c.in-Ok.behind c.args.at
          (same_place t c.args.at c.in-Ok.behind c.requires c.in-Ok.ensures.forth.1
          (sym (target_back t c.args.at c.requires ends) ∙ c.in-Ok.ensures.value)),
    )

pub returns-in-Err-CannotGoOn : goal.returns-in-Err-CannotGoOn
returns-in-Err-CannotGoOn c =
    let refused = rw c.in-Err-CannotGoOn.field-0-is at c.in-Err-CannotGoOn.ensures.value in (
      λ h. absurd cc,
      λ ends.
          let read = target_back c.args.tokens.now c.args.at c.requires ends in
          let other = refused.0 in cc,
    )
