use Rattle.std.proofs.Common.{◌≡◌, ◌+◌, ℕ, List, Contains, length, get_or, take, sym, ◌∙◌, subst, arith}
use Rattle.std.proofs.lemmas.Bool.{both_ways}
use Rattle.std.proofs.lemmas.List.{take_all}
use Rattle.scev_base.specs.declared.ids.BlockId.{BlockId}
use Rattle.ir_model.specs.declared.function.Function.{Function}
use Rattle.ir_model.specs.WellMade.{HasIds}
use Rattle.flow_graph.specs.EdgeLists.{block_id, preds_of}
use Rattle.flow_graph.proofs.EdgeLemmas.{preds_edge}
use Rattle.natural_loops.specs.Sides.{IsEntering}
use Rattle.natural_loops.specs.Table.{RegionParts, loop_of}
use Rattle.natural_loops.proofs.LatchMarks.{edge_labelled, edge_of_pred}
use Rattle.natural_loops.proofs.Marks.{marked_contains}
use Rattle.natural_loops.proofs.Marking.{AreMarks_skip, AreMarks_more, AreMarks_all}
use Rattle.natural_loops.proofs.ExitMarks.{seen_cases}
use Rattle.natural_loops.proofs.sides.entering_marks.Goals as goal
use Rattle.natural_loops.proofs.sides.entering_marks.Goals.{then-reachable+then-not-holds, else-reachable}
use Rattle.natural_loops.proofs.sides.entering_marks.Goals.{else-reachable-via-then-reachable+else-not-holds}
use Rattle.natural_loops.proofs.sides.entering_marks.Goals.{else-reachable-via-else-reachable}

pub set-requires : goal.set-requires
set-requires c =
    let f : Function = c.args.c.now.function in
    let froms = c.preds-from-items.result.now in
    let h = c.args.region.now.header.0 in
    let i = c.loop-from.from-index in
    let d : BlockId = record { 0 = 0 } in
    let ids : HasIds f = subst HasIds c.function.ensures.value c.function.ensures.well_made.ids in
    let are : froms ≡ preds_of f h = subst (λ (r : RegionParts). froms ≡ preds_of f r.header.0) c.region.view_is
    (c.preds-from-items.ensures f c.flow-flow.ensures) in
    let edge = edge_of_pred f c.flow-flow.ensures.once h froms i d are c.loop-from-test.true in
    let within = edge_labelled f ids (get_or froms i d).0 h edge in
    omega (arith, within, c.loop-from.invariant.size)

pub loop-from-preserved : goal.loop-from-preserved
loop-from-preserved c =
    let f : Function = c.args.c.now.function in
    let region : RegionParts = c.args.region.now in
    let h = region.header.0 in
    let froms = c.preds-from-items.result.now in
    let i = c.loop-from.from-index in
    let d : BlockId = record { 0 = 0 } in
    let from = get_or froms i d in
    let count : ℕ = length f.labels in
    let P : ℕ → Type 0 = IsEntering f (loop_of region) in
    let Seen : ℕ → Type 0 = λ k. Contains (take i froms) (block_id k) in
    let Later : ℕ → Type 0 = λ k. Contains (take (i + 1) froms) (block_id k) in
    let cases = seen_cases froms i d c.loop-from-test.true in
    let marks = c.loop-from.marks in
    let is_flow = c.flow-flow.ensures in
    let reached = c.reachable.ensures f is_flow in
    elim c.if-reachable.branch [
      | then-reachable+then-not-holds w ↦
          let ids : HasIds f = subst HasIds c.function.ensures.value c.function.ensures.well_made.ids in
          let are : froms ≡ preds_of f h = subst (λ (r : RegionParts). froms ≡ preds_of f r.header.0)
          c.region.view_is (c.preds-from-items.ensures f is_flow) in
          let edge = edge_of_pred f is_flow.once h froms i d are c.loop-from-test.true in
          let outside = λ (there : Contains (loop_of region).blocks from.0).
          both_ways w.holds.result w.if-not-holds.true
          (w.holds.ensures ∙ (marked_contains region.blocks from.0).0 there) in
          let entering : P from.0 = (reached.0 w.if-reachable.true, outside, edge) in
          rw (w.marks-is, w.set.ensures)
          (AreMarks_more P count Seen Later marks from.0 cases c.loop-from.invariant (edge_labelled f ids from.0 h edge)
          entering)
      | else-reachable w ↦
          rw w.marks-is
          (AreMarks_skip P count Seen Later marks from.0 cases c.loop-from.invariant
          (λ entering.
          elim w.else-reachable.branch [
            | else-reachable-via-then-reachable+else-not-holds v ↦
                entering.1
                ((marked_contains region.blocks from.0).1 (sym v.holds.ensures ∙ v.if-not-holds.false))
            | else-reachable-via-else-reachable v ↦
                both_ways c.reachable.result v.if-reachable.false (reached.1 entering.0)
          ]))
    ]

pub returns : goal.returns
returns c =
    let f : Function = c.args.c.now.function in
    let region : RegionParts = c.args.region.now in
    let h = region.header.0 in
    let froms = c.preds-from-items.result.now in
    let i = c.loop-from.from-index in
    let P : ℕ → Type 0 = IsEntering f (loop_of region) in
    let Seen : ℕ → Type 0 = λ k. Contains (take i froms) (block_id k) in
    let are : froms ≡ preds_of f h = subst (λ (r : RegionParts). froms ≡ preds_of f r.header.0) c.region.view_is
    (c.preds-from-items.ensures f c.flow-flow.ensures) in
    let all : take i froms ≡ preds_of f h = take_all i froms c.loop-from-test.false ∙ are in
    AreMarks_all P (length f.labels) Seen c.loop-from.marks
    (λ b entering.
    subst (λ (xs : List BlockId). Contains xs (block_id b)) (sym all)
    ((preds_edge f c.flow-flow.ensures.once b h).1 entering.2))
    c.loop-from.invariant
