use Rattle.std.proofs.Common.{◌≡◌, ◌<◌, ℕ, List, All, length, sym, ap, ◌∙◌, subst, arith}
use Rattle.value_view.specs.declared.reading.Reading.{Reading}
use Rattle.value_exprs.specs.View.{View, reads_of}
use Rattle.value_exprs.specs.WellMade.{IsListed}
use Rattle.value_groups.proofs.Depending.{AreReads, AreRowsBelow, AreRowsBelow_more, IsDependence_all, IsClosed_all}
use Rattle.value_groups.proofs.Depending.{row_is}
use Rattle.value_groups.proofs.dependence.dependence.Goals as goal
use Rattle.value_groups.proofs.dependence.dependence.Goals.{After-as_slice, After-loop-reads}

-- the rows that the loop goes over
all : (c : After-as_slice) → c.as_slice-reads-items.result.now ≡ c.args.view.now.reads
all c = c.as_slice-reads-items.ensures ∙ ap (λ (one : View). one.reads) c.view.view_is

-- the row of this turn
row : (c : After-as_slice) → c.as_slice.result.now ≡ reads_of c.args.view.now c.loop-reads.reads-index
row c =
    row_is c.args.view.now c.as_slice-reads-items.result.now c.loop-reads.reads-index c.reads-item.result
    c.as_slice.result.now (all c) c.loop-reads-test.true c.reads-item.is c.as_slice.ensures

pub depends-requires-clause-places : goal.depends-requires-clause-places
depends-requires-clause-places c =
    let view : View = c.args.view.now in
    subst (All (λ (reading : Reading). (reading.register.0 < length view.rows) × IsListed view reading.place))
    (sym (row c)) (c.requires.places c.loop-reads.reads-index)

pub loop-reads-preserved : goal.loop-reads-preserved
loop-reads-preserved c =
    let view : View = c.args.view.now in
    let at = (goal.at.loop-reads-preserved c).After-as_slice in
    let now : List ℕ = c.in_ok-depends.field-0 in
    let is : AreReads view (reads_of view c.loop-reads.reads-index) now =
    subst (λ (reads : List Reading). AreReads view reads now) (row at) c.in_ok-depends.ensures in
    rw c.in_ok-push.ensures.items
    (AreRowsBelow_more view c.loop-reads.graph.items c.loop-reads.reads-index now is c.loop-reads.invariant)

-- the rows of all values
finished : (c : After-loop-reads) → AreRowsBelow c.args.view.now c.loop-reads.graph.items (length c.args.view.now.reads)
finished c =
    let view : View = c.args.view.now in
    let listed : List (List Reading) = c.as_slice-reads-items.result.now in
    let all : listed ≡ view.reads = c.as_slice-reads-items.ensures ∙ ap (λ (one : View). one.reads) c.view.view_is in
    let end : c.loop-reads.reads-index ≡ length view.reads =
    omega (arith, ap (λ (rows : List (List Reading)). length rows) all, c.loop-reads.auto.reads-index-end) in
    subst (AreRowsBelow view c.loop-reads.graph.items) end c.loop-reads.invariant

pub returns-clause-graph : goal.returns-clause-graph
returns-clause-graph c = IsDependence_all c.args.view.now c.loop-reads.graph.items c.requires (finished c)

pub returns-clause-closed : goal.returns-clause-closed
returns-clause-closed c =
    IsClosed_all c.args.view.now c.loop-reads.graph.items c.requires
    (IsDependence_all c.args.view.now c.loop-reads.graph.items c.requires (finished c))
