use Rattle.std.proofs.Common.{arith}
use Rattle.std.proofs.lemmas.Result.{err_from_is_err_and}
use Rattle.ir_model.specs.Sites.{entry_sites}
use Rattle.ir_text.specs.Sites.{bare_entry}
use Rattle.ir_parts.proofs.ListLoops.{parts_more_seen}
use Rattle.ir_body.specs.Lists.{entry_at, entries_at}
use Rattle.ir_body.proofs.GatheredLoops.{seen, gathered_no_more, gathered_end, gathered_no_end}
use Rattle.ir_body.proofs.lists.more_entries.Goals as goal

pub entries-preserved : goal.entries-preserved
entries-preserved c = record {
  reading = rw c.in_ok-push.ensures.ok (parts_more_seen entry_at c.args.tokens.now c.args.from
      (seen c.args.tokens.now bare_entry entry_sites) c.entries.at c.in_ok-next.behind c.entries.entries
      c.in_ok-next.next c.entries.invariant.reading c.entries-test.ensures.value c.in_ok-next.ensures.value
      c.in_ok-next.ensures.forth);
  forth = omega (arith, c.in_ok-next.ensures.forth, c.entries.invariant.forth);
  within = c.in_ok-next.ensures.forth.1;
}

pub returns-in_err-next-clause-value : goal.returns-in_err-next-clause-value
unfolding entries_at
returns-in_err-next-clause-value c =
    let p = err_from_is_err_and c.from_residual.result c.from_residual.ensures.1 in
    rw (p.1, p.2) (gathered_no_more entry_at c.args.tokens.now c.args.from bare_entry entry_sites
    c.in_err-next.field-0.0 c.entries.at c.entries.entries c.entries.invariant.reading c.entries-test.ensures.value
    c.in_err-next.ensures.value)

pub returns-in_err-at-clause-value : goal.returns-in_err-at-clause-value
unfolding entries_at
returns-in_err-at-clause-value c =
    let p = err_from_is_err_and c.from_residual-in_err-at.result c.from_residual-in_err-at.ensures.1 in
    rw (p.1, p.2) (gathered_no_end entry_at c.args.tokens.now c.args.from bare_entry entry_sites c.in_err-at.field-0.0
    c.entries.at c.entries.entries c.entries.invariant.reading c.entries-test.ensures.value c.in_err-at.ensures.value)

pub returns-clause-value : goal.returns-clause-value
unfolding entries_at
returns-clause-value c =
    gathered_end entry_at c.args.tokens.now c.args.from bare_entry entry_sites c.entries.at c.in_ok-at.at
    c.entries.entries c.entries.invariant.reading c.entries-test.ensures.value c.in_ok-at.ensures.value
