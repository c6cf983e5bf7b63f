use Rattle.std.proofs.Common.{length, arith}
use Rattle.std.proofs.lemmas.List.{take_all}
use Rattle.std.proofs.lemmas.Option.{slice_get_within}
use Rattle.ir_printer.specs.Shown.{shown}
use Rattle.scev_tool.specs.Report.{AreLoopLines}
use Rattle.scev_tool.proofs.Headers.{header_block, later_after, later_past, none_left}
use Rattle.scev_tool.proofs.Pieces.{appends-next}
use Rattle.scev_tool.proofs.loop_lines.push_loops.Goals.{then-is_at+in_ok-push_loop, else-is_at}
use Rattle.scev_tool.proofs.loop_lines.push_loops.Goals as goal

pub push_loop-requires-clause-block : goal.push_loop-requires-clause-block
push_loop-requires-clause-block c =
    let items = c.as_slice-block-items.ensures in
    let loops = rw (← c.headers-headers.ensures) at c.requires.loops in
    header_block c.args.f.now c.headers-headers.result.now loops c.loop-block.done c.loop-block.block-index c.block-item.result (rw items at c.loop-block-test.true) (rw items at c.block-item.is) (rw items at c.loop-block.invariant.later) (c.is_at.ensures.0 c.if-is_at.true)

pub loop-block-preserved : goal.loop-block-preserved
loop-block-preserved c =
    let items = c.as_slice-block-items.ensures in
    let loops = rw (← c.headers-headers.ensures) at c.requires.loops in
    let headers = c.headers-headers.result.now in
    let done = c.loop-block.done in
    elim c.if-is_at.branch [
      | then-is_at+in_ok-push_loop w ↦
          let at = c.is_at.ensures.0 w.if-is_at.true in
          rw (w.out-is, w.done-is) (record {
            done = omega (arith, slice_get_within headers done c.block-item.result.id at);
            lines = appends-next (AreLoopLines (shown c.args.names.now) c.args.f.now) headers done c.block-item.result.id at _ c.loop-block.out.items _ w.in_ok-push_loop.ensures.0 c.loop-block.invariant.lines w.in_ok-push_loop.ensures.1 w.in_ok-push_loop.ensures.2;
            later = rw items (later_after c.args.f.now headers loops done c.loop-block.block-index c.block-item.result (rw items at c.loop-block-test.true) (rw items at c.block-item.is) (rw items at c.loop-block.invariant.later) at);
          })
      | else-is_at w ↦
          rw (w.out-is, w.done-is) (record {
            done = c.loop-block.invariant.done;
            lines = c.loop-block.invariant.lines;
            later = rw items (later_past c.args.f.now headers loops done c.loop-block.block-index c.block-item.result (rw items at c.loop-block-test.true) (rw items at c.block-item.is) (rw items at c.loop-block.invariant.later) (λ at. let no = w.if-is_at.false in let yes = c.is_at.ensures.1 at in cc));
          })
    ]

pub returns : goal.returns
returns c =
    let items = c.as_slice-block-items.ensures in
    let loops = rw (← c.headers-headers.ensures) at c.requires.loops in
    let all = none_left c.args.f.now c.headers-headers.result.now loops c.loop-block.done c.loop-block.block-index (rw items at c.loop-block-test.false) c.loop-block.invariant.done (rw items at c.loop-block.invariant.later) in
    rw (← c.headers-headers.ensures) (rw (all, take_all (length c.headers-headers.result.now) c.headers-headers.result.now (omega arith)) at c.loop-block.invariant.lines)
