use Rattle.std.proofs.Common.{List, sym, arith}
use Rattle.std.proofs.lemmas.Result.{err_from_is_err_and}
use Rattle.ir_model.specs.declared.item.InitPart.{InitPart}
use Rattle.ir_parts.specs.Reading.{left_from, is_punctuation, punctuation_at, ◌▷◌, repeated_at}
use Rattle.ir_parts.proofs.Loops.{repeat_forth, repeat_faults, repeat_ends}
use Rattle.ir_items.specs.InitReading.{part_at, more_parts_at, init_at}
use Rattle.ir_items.proofs.Nested.{no_list, a_list}
use Rattle.ir_items.proofs.initialiser.+initialisers.Goals as goal

pub more_parts-returns-in_err-next-clause-value : goal.more_parts-returns-in_err-next-clause-value
unfolding more_parts_at
more_parts-returns-in_err-next-clause-value t c =
    let p = err_from_is_err_and c.from_residual.result c.from_residual.ensures.1 in
    rw (p.1, p.2) (repeat_faults (is_punctuation 44) (punctuation_at 44 ▷ part_at init_at) (λ (part : InitPart). part)
    (λ (parts : List InitPart). parts) c.args.tokens.now c.in_err-next.field-0.0 c.parts.parts
    (left_from c.args.tokens.now c.parts.at)
    (repeated_at (is_punctuation 44) (punctuation_at 44 ▷ part_at init_at) (left_from c.args.tokens.now c.args.from))
    (sym c.parts-test.ensures.value) c.in_err-next.ensures.value c.parts.invariant.reading)

pub more_parts-parts-preserved : goal.more_parts-parts-preserved
more_parts-parts-preserved t c = record {
  reading = rw c.in_ok-push.ensures.ok (repeat_forth (is_punctuation 44) (punctuation_at 44 ▷ part_at init_at)
      c.args.tokens.now c.parts.parts c.parts.at c.in_ok-next.behind c.in_ok-next.next
      (repeated_at (is_punctuation 44) (punctuation_at 44 ▷ part_at init_at)
      (left_from c.args.tokens.now c.args.from))
      c.parts-test.ensures.value c.in_ok-next.ensures.value c.in_ok-next.ensures.forth c.parts.invariant.reading);
  forth = omega (arith, c.in_ok-next.ensures.forth, c.parts.invariant.forth);
  within = c.in_ok-next.ensures.forth.1;
}

pub more_parts-returns-clause-value : goal.more_parts-returns-clause-value
unfolding more_parts_at
more_parts-returns-clause-value t c =
    repeat_ends (is_punctuation 44) (punctuation_at 44 ▷ part_at init_at) c.parts.parts
    (left_from c.args.tokens.now c.parts.at)
    (repeated_at (is_punctuation 44) (punctuation_at 44 ▷ part_at init_at) (left_from c.args.tokens.now c.args.from))
    (sym c.parts-test.ensures.value) c.parts.invariant.reading

pub nested-returns-then-not-starts_sign-clause-value : goal.nested-returns-then-not-starts_sign-clause-value
nested-returns-then-not-starts_sign-clause-value t c =
    rw (no_list (left_from c.args.tokens.now c.args.from) (sym c.if-not-starts_sign.ensures.value))
    c.plain.ensures.value

pub nested-returns-else-room-eq0-clause-value : goal.nested-returns-else-room-eq0-clause-value
nested-returns-else-room-eq0-clause-value t c =
    rw (a_list (left_from c.args.tokens.now c.args.from) (sym c.if-not-starts_sign.ensures.value))
    c.list.ensures.value
