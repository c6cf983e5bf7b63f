use Rattle.std.proofs.Common.{List, [], ◌∷◌, ◌++◌, refl, arith}
use Rattle.std.proofs.lemmas.Result.{err_from_is_err_and}
use Rattle.ir_model.specs.declared.function.Block.{Block}
use Rattle.ir_text.specs.Mentions.{Mention}
use Rattle.ir_model.specs.Sites.{block_sites}
use Rattle.ir_text.specs.Sites.{bare_block}
use Rattle.ir_lex.specs.Tokenized.{Tokenized}
use Rattle.ir_parts.specs.Reading.{left_from}
use Rattle.ir_parts.specs.ListReading.{all_up_to_at}
use Rattle.ir_parts.specs.Places.{mentions_at}
use Rattle.ir_functions.specs.Functions.{block_at}
use Rattle.ir_functions.specs.Views.{bare_blocks, blocks_sites}
use Rattle.ir_functions.proofs.ListViews.{one_more_block}
use Rattle.ir_functions.proofs.UntilLoops.{up_to_begins, up_to_forth, up_to_faults, up_to_ends, up_to_no_end}
use Rattle.ir_functions.proofs.BodyAt.{body_read, body_no_first, body_faults}
use Rattle.ir_functions.proofs.function.body.Goals as goal

abbrev told : Tokenized → Block → Block × List Mention
told t block = (bare_block block, mentions_at t (block_sites block))

abbrev seen : Tokenized → List Block → List Block × List Mention
seen t blocks = (bare_blocks blocks, mentions_at t (blocks_sites blocks))

abbrev all : List (Block × List Mention) → List (Block × List Mention)
all found = found

pub returns-in_err-first-clause-value : goal.returns-in_err-first-clause-value
returns-in_err-first-clause-value c =
    let t = c.args.tokens.now in
    let p = err_from_is_err_and c.from_residual.result c.from_residual.ensures.1 in
    rw (p.1, p.2) (body_no_first (told t) (seen t) t c.in_err-first.field-0.0 (left_from t c.args.from)
    c.in_err-first.ensures.value)

pub others-init : goal.others-init
others-init c =
    let t = c.args.tokens.now in
    let first = told t c.in_ok-first.first in
    record {
      middle = c.in_ok-first.behind;
      first = first;
      begun = c.in_ok-first.ensures.value;
      reading = rw (c.in_ok-push.ensures.ok, c.new-blocks.ensures) (
        [],
        one_more_block t [] c.in_ok-first.first [] refl,
        up_to_begins 125 block_at (left_from t c.in_ok-first.behind),
      );
      forth = c.in_ok-first.ensures.forth.0;
      within = c.in_ok-first.ensures.forth.1;
    }

pub returns-in_err-next-clause-value : goal.returns-in_err-next-clause-value
returns-in_err-next-clause-value c =
    let t = c.args.tokens.now in
    let p = err_from_is_err_and c.from_residual-in_err-next.result c.from_residual-in_err-next.ensures.1 in
    let so_far = c.others.invariant in
    let total = all_up_to_at 125 block_at (left_from t so_far.middle) in
    rw (p.1, p.2) (body_faults all (seen t) t c.in_err-next.field-0.0 (left_from t c.args.from)
    (left_from t so_far.middle) so_far.first so_far.begun
    (up_to_faults 125 block_at (told t) all t c.in_err-next.field-0.0 so_far.reading.0 (left_from t c.others.at) total
    c.others-test.ensures.value c.in_err-next.ensures.value so_far.reading.2))

pub others-preserved : goal.others-preserved
others-preserved c =
    let t = c.args.tokens.now in
    let so_far = c.others.invariant in
    let next = told t c.in_ok-next.next in
    let total = all_up_to_at 125 block_at (left_from t so_far.middle) in
    record {
      middle = so_far.middle;
      first = so_far.first;
      begun = so_far.begun;
      reading = rw c.in_ok-push-2.ensures.ok (
        so_far.reading.0 ++ next ∷ [],
        one_more_block t c.others.blocks c.in_ok-next.next (so_far.first ∷ so_far.reading.0) so_far.reading.1,
        up_to_forth 125 block_at t so_far.reading.0 c.others.at c.in_ok-next.behind next total
            c.others-test.ensures.value c.in_ok-next.ensures.value c.in_ok-next.ensures.forth so_far.reading.2,
      );
      forth = omega (arith, c.in_ok-next.ensures.forth, so_far.forth);
      within = c.in_ok-next.ensures.forth.1;
    }

pub returns-in_err-at-clause-value : goal.returns-in_err-at-clause-value
returns-in_err-at-clause-value c =
    let t = c.args.tokens.now in
    let p = err_from_is_err_and c.from_residual-in_err-at.result c.from_residual-in_err-at.ensures.1 in
    let so_far = c.others.invariant in
    let total = all_up_to_at 125 block_at (left_from t so_far.middle) in
    rw (p.1, p.2) (body_faults all (seen t) t c.in_err-at.field-0.0 (left_from t c.args.from)
    (left_from t so_far.middle) so_far.first so_far.begun
    (up_to_no_end 125 block_at all t c.in_err-at.field-0.0 so_far.reading.0 (left_from t c.others.at) total
    c.others-test.ensures.value c.in_err-at.ensures.value so_far.reading.2))

pub returns-clause-value : goal.returns-clause-value
returns-clause-value c =
    let t = c.args.tokens.now in
    let so_far = c.others.invariant in
    let total = all_up_to_at 125 block_at (left_from t so_far.middle) in
    body_read (left_from t c.args.from) (left_from t so_far.middle) (left_from t c.in_ok-at.at) so_far.first
    so_far.reading.0 (seen t c.others.blocks) so_far.begun
    (up_to_ends 125 block_at t so_far.reading.0 (left_from t c.others.at) c.in_ok-at.at total
    c.others-test.ensures.value c.in_ok-at.ensures.value so_far.reading.2) so_far.reading.1
