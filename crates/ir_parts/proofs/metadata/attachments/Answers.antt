use Rattle.std.proofs.Common.{[], ◌∷◌, ◌++◌, sym, arith}
use Rattle.std.proofs.lemmas.Result.{err_from_is_err_and}
use Rattle.ir_parts.specs.Reading.{left_from, repeated_at, is_punctuation}
use Rattle.ir_parts.specs.MetadataReading.{attachment_at, attachments_at}
use Rattle.ir_parts.proofs.Loops.{repeat_forth, skip_faults, skip_ends}
use Rattle.ir_parts.proofs.metadata.attachments.Goals as goal

pub attachments-preserved : goal.attachments-preserved
attachments-preserved c =
    let so_far = c.attachments.invariant.reading in
    record {
      reading = (
        so_far.0 ++ tt ∷ [],
        repeat_forth (is_punctuation 44) attachment_at c.args.tokens.now so_far.0 c.attachments.at c.in_ok-at.at tt
            (repeated_at (is_punctuation 44) attachment_at (left_from c.args.tokens.now c.args.from))
            c.attachments-test.ensures.value c.in_ok-at.ensures.value
            c.in_ok-at.ensures.forth so_far.1,
      );
      forth = omega (arith, c.in_ok-at.ensures.forth, c.attachments.invariant.forth);
      within = c.in_ok-at.ensures.forth.1;
    }

pub returns-in_err-at-clause-value : goal.returns-in_err-at-clause-value
unfolding attachments_at
returns-in_err-at-clause-value c =
    let p = err_from_is_err_and c.from_residual.result c.from_residual.ensures.1 in
    let so_far = c.attachments.invariant.reading in
    rw (p.1, p.2) (skip_faults (is_punctuation 44) attachment_at c.args.tokens.now c.in_err-at.field-0.0 so_far.0
    (left_from c.args.tokens.now c.attachments.at) (repeated_at (is_punctuation 44) attachment_at (left_from
    c.args.tokens.now c.args.from))
    (sym c.attachments-test.ensures.value) c.in_err-at.ensures.value so_far.1)

pub returns-clause-value : goal.returns-clause-value
unfolding attachments_at
returns-clause-value c =
    let so_far = c.attachments.invariant.reading in
    skip_ends (is_punctuation 44) attachment_at so_far.0 (left_from c.args.tokens.now c.attachments.at)
    (repeated_at (is_punctuation 44) attachment_at (left_from c.args.tokens.now c.args.from)) (sym
    c.attachments-test.ensures.value) so_far.1
