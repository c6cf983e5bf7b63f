use Rattle.std.proofs.Common.{ℕ, List}
use Rattle.std.proofs.lemmas.Result.{IfOk-weaker}
use Rattle.scev_base.specs.declared.ids.BlockId.{BlockId}
use Rattle.ir_model.specs.declared.function.Function.{Function}
use Rattle.flow_graph.specs.Graph.{IsMarked}
use Rattle.natural_loops.specs.Backward.{IsBackEdge}
use Rattle.natural_loops.specs.Sides.{AreInTextOrder}
use Rattle.natural_loops.proofs.Listing.{in_order_same}
use Rattle.natural_loops.proofs.latches.latches.Goals as goal

pub listed-requires : goal.listed-requires
listed-requires c b marked =
    let back = (c.in_ok-marks.ensures b).0 marked in
    (back.edge.0, back.edge.1)

pub returns : goal.returns
returns c =
    let f : Function = c.args.c.now.function in
    let marked : ℕ → Type 0 = IsMarked c.in_ok-marks.marks in
    let back : ℕ → Type 0 = λ b. IsBackEdge f b c.args.h.0 in
    IfOk-weaker c.listed.result (λ (found : List BlockId). AreInTextOrder f marked found)
    (λ (found : List BlockId). AreInTextOrder f back found)
    (λ found are. in_order_same f marked back found c.in_ok-marks.ensures are) c.listed.ensures
