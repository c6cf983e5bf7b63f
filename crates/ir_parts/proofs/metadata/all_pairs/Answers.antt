use Rattle.std.proofs.Common.{[], ◌∷◌, ◌++◌, sym, arith}
use Rattle.std.proofs.lemmas.Result.{err_from_is_err_and}
use Rattle.ir_parts.specs.Reading.{left_from, repeated_at}
use Rattle.ir_parts.specs.MetadataReading.{is_metadata, pair_at, pairs_at}
use Rattle.ir_parts.proofs.Loops.{repeat_forth, skip_faults, skip_ends}
use Rattle.ir_parts.proofs.metadata.all_pairs.Goals as goal

pub pairs-preserved : goal.pairs-preserved
pairs-preserved c =
    let so_far = c.pairs.invariant.reading in
    record {
      reading = (
        so_far.0 ++ tt ∷ [],
        repeat_forth is_metadata pair_at c.args.tokens.now so_far.0 c.pairs.at c.in_ok-at.at tt
            (repeated_at is_metadata pair_at (left_from c.args.tokens.now c.args.from)) c.pairs-test.ensures.value
            c.in_ok-at.ensures.value
            c.in_ok-at.ensures.forth so_far.1,
      );
      forth = omega (arith, c.in_ok-at.ensures.forth, c.pairs.invariant.forth);
      within = c.in_ok-at.ensures.forth.1;
    }

pub returns-in_err-at-clause-value : goal.returns-in_err-at-clause-value
unfolding pairs_at
returns-in_err-at-clause-value c =
    let p = err_from_is_err_and c.from_residual.result c.from_residual.ensures.1 in
    let so_far = c.pairs.invariant.reading in
    rw (p.1, p.2) (skip_faults is_metadata pair_at c.args.tokens.now c.in_err-at.field-0.0 so_far.0
    (left_from c.args.tokens.now c.pairs.at) (repeated_at is_metadata pair_at (left_from c.args.tokens.now c.args.from))
    (sym c.pairs-test.ensures.value) c.in_err-at.ensures.value so_far.1)

pub returns-clause-value : goal.returns-clause-value
unfolding pairs_at
returns-clause-value c =
    let so_far = c.pairs.invariant.reading in
    skip_ends is_metadata pair_at so_far.0 (left_from c.args.tokens.now c.pairs.at)
    (repeated_at is_metadata pair_at (left_from c.args.tokens.now c.args.from)) (sym c.pairs-test.ensures.value)
    so_far.1
