use Rattle.std.proofs.Common.{List, [], ◌∷◌, ◌++◌, Ok, refl, sym, ap, ◌∙◌, arith}
use Rattle.std.proofs.lemmas.Result.{err_from_is_err_and}
use Rattle.ir_model.specs.declared.op.Case.{Case}
use Rattle.ir_text.specs.Mentions.{Mention}
use Rattle.ir_text.specs.Sites.{bare_case}
use Rattle.ir_parts.specs.Reading.{left_from, repeated_at, go_on, pure}
use Rattle.ir_parts.specs.Places.{mentions_at}
use Rattle.ir_parts.proofs.Loops.{repeat_begins, repeat_forth, repeat_faults, repeat_ends, faults_on}
use Rattle.ir_body.specs.Cases.{begins_scalar, case_at, cases_at}
use Rattle.ir_body.specs.Gathered.{gathered}
use Rattle.ir_body.specs.Views.{bare_cases, case_sites, cases_sites}
use Rattle.ir_body.proofs.GatheredLoops.{one_more_case}
use Rattle.ir_body.proofs.cases.read_cases.Goals as goal

pub loop-cases-init : goal.loop-cases-init
loop-cases-init c = record {
  reading = (
    [],
    rw c.new-cases.ensures refl,
    repeat_begins begins_scalar case_at (left_from c.args.tokens.now c.args.from),
  );
  forth = omega arith;
  within = c.requires;
}

pub loop-cases-preserved : goal.loop-cases-preserved
loop-cases-preserved c =
    let so_far = c.loop-cases.invariant.reading in
    let told : Case × List Mention = (
      bare_case c.in_ok-next.next,
      mentions_at c.args.tokens.now (case_sites
          c.in_ok-next.next),
    ) in
    record {
      reading = rw c.in_ok-push.ensures.ok (
        so_far.0 ++ told ∷ [],
        one_more_case c.args.tokens.now c.loop-cases.cases c.in_ok-next.next so_far.0 so_far.1,
        repeat_forth begins_scalar case_at c.args.tokens.now so_far.0 c.loop-cases.at c.in_ok-next.behind told
            (repeated_at begins_scalar case_at (left_from c.args.tokens.now c.args.from))
            c.loop-cases-test.ensures.value c.in_ok-next.ensures.value c.in_ok-next.ensures.forth so_far.2,
      );
      forth = omega (arith, c.in_ok-next.ensures.forth, c.loop-cases.invariant.forth);
      within = c.in_ok-next.ensures.forth.1;
    }

pub returns-in_err-next-clause-value : goal.returns-in_err-next-clause-value
unfolding cases_at
returns-in_err-next-clause-value c =
    let p = err_from_is_err_and c.from_residual.result c.from_residual.ensures.1 in
    let so_far = c.loop-cases.invariant.reading in
    let view : Case → Case × List Mention = λ x. (bare_case x, mentions_at c.args.tokens.now (case_sites x)) in
    rw (p.1, p.2) (faults_on (λ (xs : List (Case × List Mention)). xs)
    (λ (cases : List Case). (bare_cases cases, mentions_at c.args.tokens.now (cases_sites cases)))
    c.args.tokens.now c.in_err-next.field-0.0
    (repeated_at begins_scalar case_at (left_from c.args.tokens.now c.args.from)) (λ found. pure (gathered found))
    (repeat_faults begins_scalar case_at view (λ (xs : List (Case × List Mention)). xs) c.args.tokens.now
    c.in_err-next.field-0.0 so_far.0 (left_from c.args.tokens.now c.loop-cases.at)
    (repeated_at begins_scalar case_at (left_from c.args.tokens.now c.args.from)) (sym c.loop-cases-test.ensures.value)
    c.in_err-next.ensures.value so_far.2))

pub returns-clause-value : goal.returns-clause-value
unfolding cases_at
returns-clause-value c =
    let so_far = c.loop-cases.invariant.reading in
    ap (λ r. go_on r (λ found. pure (gathered found)))
    (repeat_ends begins_scalar case_at so_far.0 (left_from c.args.tokens.now c.loop-cases.at)
    (repeated_at begins_scalar case_at (left_from c.args.tokens.now c.args.from)) (sym c.loop-cases-test.ensures.value)
    so_far.2)
    ∙ ap (λ (p : List Case × List Mention). Ok (p, left_from c.args.tokens.now c.loop-cases.at)) (sym so_far.1)
