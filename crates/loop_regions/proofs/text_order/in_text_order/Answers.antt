use Rattle.std.proofs.Common.{◌≡◌, ◌<◌, ◌≤◌, false, List, length, get_or, sym, ap, ◌∙◌, subst, arith, []}
use Rattle.std.proofs.lemmas.List.{get_or_read}
use Rattle.std.proofs.lemmas.List.Elements.{All-get_or}
use Rattle.ir_model.specs.declared.function.Block.{Block}
use Rattle.loop_regions.proofs.TextOrderLemmas.{id_at, AreListedTo_skip, AreListedTo_push, AreListed_end}
use Rattle.loop_regions.proofs.text_order.in_text_order.Goals as goal
use Rattle.loop_regions.proofs.text_order.in_text_order.Goals.{then-index+in_ok-push, else-index}

pub loop-block-preserved : goal.loop-block-preserved
loop-block-preserved c =
    let f = c.args.f.now in
    let n = c.loop-block.block-index in
    let old = c.args.marks.items in
    let marks = c.loop-block.marks.items in
    let h = c.block-item.result.id in
    let d : Block = record { id = record { 0 = 0 }; instrs = [] } in
    let blocks_are : c.as_slice-block-items.result.now ≡ f.blocks = c.as_slice-block-items.ensures in
    let within : n < length f.blocks = subst (λ (xs : List Block). n < length xs) blocks_are c.loop-block-test.true in
    let item : c.block-item.result ≡ get_or f.blocks n c.block-item.result = subst (λ (xs : List Block). c.block-item.result ≡ get_or xs n c.block-item.result) blocks_are c.block-item.is in
    let is : id_at f.blocks n ≡ h.0 = ap (λ (x : Block). x.id.0) (sym (get_or_read f.blocks n c.block-item.result within item d)) in
    let at_block = All-get_or (λ (x : Block). x.id.0 < length old) f.blocks n d within c.requires in
    let small : h.0 < length old = omega (arith, at_block, is) in
    let inside : h.0 < length marks = omega (arith, small, c.loop-block.invariant.size) in
    let mark = get_or_read marks h.0 c.index.result.now inside c.index.ensures false in
    elim c.if-index.branch [
      | then-index+in_ok-push w ↦
          rw (w.marks-is, w.headers-is, w.in_ok-push.ensures.ok) (AreListedTo_push f old marks c.loop-block.headers n h within is (sym mark ∙ w.if-index.true) c.loop-block.invariant)
      | else-index w ↦
          rw (w.marks-is, w.headers-is) (AreListedTo_skip f old marks c.loop-block.headers n h.0 within is (sym mark ∙ w.if-index.false) c.loop-block.invariant)
    ]

pub returns : goal.returns
returns c =
    AreListed_end c.args.f.now c.args.marks.items c.loop-block.marks.items c.loop-block.headers c.loop-block.block-index (subst (λ (xs : List Block). length xs ≤ c.loop-block.block-index) c.as_slice-block-items.ensures c.loop-block-test.false) c.loop-block.invariant
