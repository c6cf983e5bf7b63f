use Rattle.std.proofs.Common.{◌≡◌, List, length, get_or, take, ap, ◌∙◌, subst, arith}
use Rattle.std.proofs.lemmas.Bool.{both_ways}
use Rattle.std.proofs.lemmas.List.{take_more, take_all}
use Rattle.scev_base.specs.declared.ids.BlockId.{BlockId}
use Rattle.ir_model.specs.declared.function.Function.{Function}
use Rattle.ir_model.specs.WellMade.{HasIds}
use Rattle.flow_graph.specs.EdgeLists.{preds_of}
use Rattle.natural_loops.specs.Backward.{IsBackEdge}
use Rattle.natural_loops.proofs.LatchMarks.{AreLatchMarks, edge_labelled, edge_of_pred, AreLatchMarks_none}
use Rattle.natural_loops.proofs.LatchMarks.{AreLatchMarks_skip, AreLatchMarks_more, AreLatchMarks_all}
use Rattle.natural_loops.proofs.latches.latch_marks.Goals as goal
use Rattle.natural_loops.proofs.latches.latch_marks.Goals.{then-reachable+then-dominates, else-reachable}
use Rattle.natural_loops.proofs.latches.latch_marks.Goals.{else-reachable-via-then-reachable+else-dominates}
use Rattle.natural_loops.proofs.latches.latch_marks.Goals.{else-reachable-via-else-reachable}

pub set-requires : goal.set-requires
set-requires c =
    let f : Function = c.args.c.now.function in
    let froms = c.preds-from-items.result.now in
    let i = c.loop-from.from-index in
    let d : BlockId = record { 0 = 0 } in
    let ids : HasIds f = subst HasIds c.function.ensures.value c.function.ensures.well_made.ids in
    let edge = edge_of_pred f c.flow-flow.ensures.once c.args.h.0 froms i d
    (c.preds-from-items.ensures f c.flow-flow.ensures) c.loop-from-test.true in
    let within = edge_labelled f ids (get_or froms i d).0 c.args.h.0 edge in
    omega (arith, within, c.loop-from.invariant.size)

pub loop-from-init : goal.loop-from-init
loop-from-init c =
    let f : Function = c.args.c.now.function in
    let count : c.len.result ≡ length f.labels = c.len.ensures ∙ ap (λ (g : Function). length g.labels)
    c.function.ensures.value in
    rw (c.in_ok-marks.ensures, count) (AreLatchMarks_none f c.args.h.0)

pub loop-from-preserved : goal.loop-from-preserved
loop-from-preserved c =
    let f : Function = c.args.c.now.function in
    let h = c.args.h.0 in
    let froms = c.preds-from-items.result.now in
    let i = c.loop-from.from-index in
    let d : BlockId = record { 0 = 0 } in
    let from = get_or froms i d in
    let marks = c.loop-from.marks in
    let is_flow = c.flow-flow.ensures in
    let reached = c.reachable.ensures f is_flow in
    rw (take_more froms i d c.loop-from-test.true)
    (elim c.if-reachable.branch [
      | then-reachable+then-dominates w ↦
          let ids : HasIds f = subst HasIds c.function.ensures.value c.function.ensures.well_made.ids in
          let edge = edge_of_pred f is_flow.once h froms i d (c.preds-from-items.ensures f is_flow)
          c.loop-from-test.true in
          let back : IsBackEdge f from.0 h = record {
            reachable = reached.0 w.if-reachable.true;
            edge = edge;
            dominated = w.dominates.ensures.0 w.if-dominates.true;
          } in
          rw (w.marks-is, w.set.ensures)
          (AreLatchMarks_more f h (take i froms) marks from (edge_labelled f ids from.0 h edge) back
          c.loop-from.invariant)
      | else-reachable w ↦
          rw w.marks-is
          (AreLatchMarks_skip f h (take i froms) marks from
          (λ reachable dominates.
          elim w.else-reachable.branch [
            | else-reachable-via-then-reachable+else-dominates v ↦
                both_ways v.dominates.result v.if-dominates.false (v.dominates.ensures.1 dominates)
            | else-reachable-via-else-reachable v ↦
                both_ways c.reachable.result v.if-reachable.false (reached.1 reachable)
          ])
          c.loop-from.invariant)
    ])

pub returns : goal.returns
returns c =
    let f : Function = c.args.c.now.function in
    let h = c.args.h.0 in
    let froms = c.preds-from-items.result.now in
    let all : take c.loop-from.from-index froms ≡ preds_of f h = take_all c.loop-from.from-index froms
    c.loop-from-test.false ∙ c.preds-from-items.ensures f c.flow-flow.ensures in
    AreLatchMarks_all f h c.flow-flow.ensures.once c.loop-from.marks
    (subst (λ (blocks : List BlockId). AreLatchMarks f h blocks c.loop-from.marks) all c.loop-from.invariant)
