use Rattle.std.proofs.Common.{arith}
use Rattle.std.proofs.lemmas.Result.{err_from_is_err_and}
use Rattle.ir_model.specs.Sites.{typed_sites}
use Rattle.ir_text.specs.Sites.{bare_typed}
use Rattle.ir_parts.proofs.ListLoops.{parts_more_seen}
use Rattle.ir_body.specs.Operands.{typed_at}
use Rattle.ir_body.specs.Lists.{indices_at}
use Rattle.ir_body.proofs.GatheredLoops.{seen, gathered_no_more, gathered_end, gathered_no_end}
use Rattle.ir_body.proofs.lists.read_indices.Goals as goal

pub indices-preserved : goal.indices-preserved
indices-preserved c = record {
  reading = rw c.in_ok-push.ensures.ok (parts_more_seen typed_at c.args.tokens.now c.args.from
      (seen c.args.tokens.now bare_typed typed_sites) c.indices.at c.in_ok-next.behind c.indices.indices
      c.in_ok-next.next c.indices.invariant.reading c.indices-test.ensures.value c.in_ok-next.ensures.value
      c.in_ok-next.ensures.forth);
  forth = omega (arith, c.in_ok-next.ensures.forth, c.indices.invariant.forth);
  within = c.in_ok-next.ensures.forth.1;
}

pub returns-in_err-next-clause-value : goal.returns-in_err-next-clause-value
unfolding indices_at
returns-in_err-next-clause-value c =
    let p = err_from_is_err_and c.from_residual.result c.from_residual.ensures.1 in
    rw (p.1, p.2) (gathered_no_more typed_at c.args.tokens.now c.args.from bare_typed typed_sites
    c.in_err-next.field-0.0 c.indices.at c.indices.indices c.indices.invariant.reading c.indices-test.ensures.value
    c.in_err-next.ensures.value)

pub returns-in_err-at-clause-value : goal.returns-in_err-at-clause-value
unfolding indices_at
returns-in_err-at-clause-value c =
    let p = err_from_is_err_and c.from_residual-in_err-at.result c.from_residual-in_err-at.ensures.1 in
    rw (p.1, p.2) (gathered_no_end typed_at c.args.tokens.now c.args.from bare_typed typed_sites c.in_err-at.field-0.0
    c.indices.at c.indices.indices c.indices.invariant.reading c.indices-test.ensures.value c.in_err-at.ensures.value)

pub returns-clause-value : goal.returns-clause-value
unfolding indices_at
returns-clause-value c =
    gathered_end typed_at c.args.tokens.now c.args.from bare_typed typed_sites c.indices.at c.in_ok-at.at
    c.indices.indices c.indices.invariant.reading c.indices-test.ensures.value c.in_ok-at.ensures.value
