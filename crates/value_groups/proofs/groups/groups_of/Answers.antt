use Rattle.std.proofs.Common.{◌≡◌, ℕ, Bool, List, length, map, nat_eq, sym, ap, ◌∙◌, subst}
use Rattle.std.specs.Option.{unwrap_or}
use Rattle.indexmap.specs.IndexMap.{get}
use Rattle.flow_graph.specs.Graph.{IsClosed}
use Rattle.graph_components.specs.Components.{AreComponents}
use Rattle.value_exprs.specs.View.{View}
use Rattle.value_groups.specs.Counts.{AreCounted, phis_of}
use Rattle.value_groups.proofs.Grouping.{groups_are}
use Rattle.value_groups.proofs.groups.groups_of.Goals as goal

pub components-requires : goal.components-requires
components-requires c = subst IsClosed (sym c.as_slice.ensures.value) c.in_ok-graph.ensures.closed

pub returns : goal.returns
returns c =
    let view : View = c.args.view.now in
    let components : List ℕ = c.in_ok-components.components in
    let given : List ℕ = c.as_slice-3.result.now in
    let places : List ℕ = c.in_ok-places.places in
    let count : ℕ → ℕ = λ k. unwrap_or (get nat_eq c.numbered.new.counts k) 0 in
    let are = subst (λ (graph : List (List ℕ)). AreComponents graph components) c.as_slice.ensures.value
    c.in_ok-components.ensures in
    let turns : c.as_slice-2.result.now ≡ view.turns =
    c.as_slice-2.ensures ∙ ap (λ (one : View). one.turns) c.view.view_is in
    let counted : AreCounted view.turns components places =
    subst (λ (tests : List Bool). AreCounted tests components places) turns
    (subst (λ (numbers : List ℕ). AreCounted c.as_slice-2.result.now numbers places) c.as_slice-3.ensures
    c.in_ok-places.ensures.places) in
    let counts : (k : ℕ) → count k ≡ length (phis_of view.turns components k (length components)) =
    λ k. c.in_ok-places.ensures.counts k
    ∙ (ap (λ (tests : List Bool). length (phis_of tests given k (length given))) turns
    ∙ ap (λ (numbers : List ℕ). length (phis_of view.turns numbers k (length numbers))) c.as_slice-3.ensures) in
    groups_are view c.in_ok-graph.graph.items components places c.in_ok-sizes.sizes count c.in_ok-graph.ensures.graph
    are c.requires.sizes.1 counted counts (c.in_ok-sizes.ensures ∙ ap (map count) c.as_slice-4.ensures)
