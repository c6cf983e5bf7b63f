use Rattle.std.proofs.Common.{◌+◌, sym, ◌∙◌}
use Rattle.ir_eval.specs.Outcome.{has_name}
use Rattle.ir_eval.proofs.Named.{find_more, find_front}
use Rattle.ir_eval.proofs.eval.function_named.Goals as goal

pub loop-item-preserved : goal.loop-item-preserved
loop-item-preserved c =
    find_more (has_name c.args.name.now) c.as_slice-item-items.result.now c.loop-item.item-index c.item-item.result
    c.loop-item-test.true c.item-item.is c.loop-item.invariant
    ∙ sym c.in_default.ensures

pub returns-in-Some : goal.returns-in-Some
returns-in-Some c =
    let items = c.as_slice-item-items.result.now in
    let here =
    find_more (has_name c.args.name.now) items c.loop-item.item-index c.item-item.result
    c.loop-item-test.true c.item-item.is c.loop-item.invariant
    ∙ sym c.in-Some.ensures in
    sym (find_front (has_name c.args.name.now) c.args.m.now.items (c.loop-item.item-index + 1) c.in-Some.f.now
    (rw c.as_slice-item-items.ensures at here))
