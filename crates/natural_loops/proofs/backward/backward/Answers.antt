use Rattle.std.proofs.Common.{ℕ, List, Vec, Global, sym, subst}
use Rattle.std.proofs.lemmas.Result.{IfOk-weaker}
use Rattle.ir_model.specs.declared.function.Function.{Function}
use Rattle.ir_model.specs.WellMade.{HasIds}
use Rattle.flow_graph.specs.Graph.{IsClosed, IsGraphOf, IsReversed}
use Rattle.natural_loops.specs.Backward.{IsBackward}
use Rattle.natural_loops.proofs.Backwards.{reachable_nodes, backward_arcs}
use Rattle.natural_loops.proofs.backward.backward.Goals as goal

pub reversed-requires-clause-closed : goal.reversed-requires-clause-closed
reversed-requires-clause-closed c =
    subst IsClosed (sym c.as_slice.ensures) c.in_ok-graph.ensures.closed

pub reversed-requires-clause-nodes : goal.reversed-requires-clause-nodes
reversed-requires-clause-nodes c =
    let f : Function = c.args.c.now.function in
    let graph = c.in_ok-graph.graph in
    let nodes = c.in_ok-nodes.nodes.items in
    let is_graph = subst (λ (g : Function). IsGraphOf g graph) c.function.ensures.value c.in_ok-graph.ensures in
    let small = reachable_nodes f graph nodes is_graph c.in_ok-nodes.ensures in
    rw (c.as_slice.ensures, c.as_slice-2.ensures.value) small

pub returns : goal.returns
returns c =
    let f : Function = c.args.c.now.function in
    let graph = c.in_ok-graph.graph in
    let nodes = c.in_ok-nodes.nodes.items in
    let is_graph = subst (λ (g : Function). IsGraphOf g graph) c.function.ensures.value c.in_ok-graph.ensures in
    let ids : HasIds f = subst HasIds c.function.ensures.value c.function.ensures.well_made.ids in
    IfOk-weaker c.reversed.result
    (λ (out : Vec (List ℕ) Global). IsReversed c.as_slice.result.now c.as_slice-2.result.now out.items)
    (λ (out : Vec (List ℕ) Global). IsBackward f out.items)
    (λ out turned.
    backward_arcs f graph nodes is_graph c.in_ok-nodes.ensures ids out.items
    (rw (c.as_slice.ensures, c.as_slice-2.ensures.value) at turned))
    c.reversed.ensures
