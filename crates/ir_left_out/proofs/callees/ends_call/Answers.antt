use Rattle.std.proofs.Common.{ℕ, Ok, ap, sym, ◌∙◌}
use Rattle.std.proofs.lemmas.Bool.{eqb-true, eq-eqb}
use Rattle.ir_parts.specs.Reading.{left_from}
use Rattle.ir_left_out.proofs.EndsIn.{ends_there, same_place}
use Rattle.ir_left_out.proofs.CallFound.{begun_reads, ends_read}
use Rattle.ir_left_out.proofs.callees.ends_call.Goals as goal

pub returns-in-Ok : goal.returns-in-Ok
returns-in-Ok c =
    let t = c.args.tokens.now in (
      λ same.
          ends_there begun_reads t c.last_call.result c.args.at
          (c.in-Ok.ensures.value
          ∙ ap (λ (n : ℕ). Ok (tt, left_from t n)) (eqb-true c.in-Ok.behind c.args.at same)),
      λ ends.
          eq-eqb c.in-Ok.behind c.args.at
          (same_place t c.args.at c.in-Ok.behind c.requires c.in-Ok.ensures.forth.1
          (sym (ends_read t c.args.at c.last_call.result c.last_call.ensures.only ends) ∙ c.in-Ok.ensures.value)),
    )

pub returns-in-Err-CannotGoOn : goal.returns-in-Err-CannotGoOn
returns-in-Err-CannotGoOn c =
    let t = c.args.tokens.now in
    let refused = rw c.in-Err-CannotGoOn.field-0-is at c.in-Err-CannotGoOn.ensures.value in (
      λ h. absurd cc,
      λ ends.
          let read = ends_read t c.args.at c.last_call.result c.last_call.ensures.only ends in
          let other = refused.0 in cc,
    )
