use Rattle.std.proofs.Common.{Option, arith}
use Rattle.std.proofs.lemmas.Result.{err_from_is_err_and}
use Rattle.ir_model.specs.declared.item.Item.{Item}
use Rattle.ir_lex.specs.Tokenized.{Tokenized}
use Rattle.ir_parts.specs.Places.{mentions_at}
use Rattle.ir_reader.specs.declared.items.ItemEnding.{ItemEnding}
use Rattle.ir_reader.specs.ItemsReading.{Told, bare_item, sites_if_any}
use Rattle.ir_reader.proofs.ItemsLoop.{items_begin, items_more, items_refused, items_end}
use Rattle.ir_reader.proofs.items.read_items.Goals as goal

abbrev told : Tokenized → Option Item × ItemEnding → Told
told t ended = (bare_item ended, mentions_at t (sites_if_any ended.0))

pub items-init : goal.items-init
items-init c = rw c.new-items.ensures (items_begin c.args.tokens.now)

pub returns-in_err-ended : goal.returns-in_err-ended
returns-in_err-ended c = record {
  value =
      let p = err_from_is_err_and c.from_residual.result c.from_residual.ensures.1 in
      rw (p.1, p.2) (items_refused c.args.tokens.now (told c.args.tokens.now) c.items.at c.items.items
      c.in_err-ended.field-0.0 c.items.invariant (omega (arith, c.items-test.true, c.len.ensures))
      c.in_err-ended.ensures.value);
}

pub items-preserved : goal.items-preserved
items-preserved c =
    rw c.in_ok-add.ensures (items_more c.args.tokens.now c.items.at c.in_ok-ended.behind c.items.items
    c.in_ok-ended.ended c.items.invariant (omega (arith, c.items-test.true, c.len.ensures)) c.in_ok-ended.ensures.value
    c.in_ok-ended.ensures.forth)

pub returns : goal.returns
returns c = record {
  value = items_end c.args.tokens.now c.items.at c.items.items c.items.invariant
      (omega (arith, c.items-test.false, c.len.ensures));
}
