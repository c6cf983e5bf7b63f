use Rattle.std.proofs.Common.{ℕ}
use Rattle.std.proofs.lemmas.Result.{IfOk-weaker}
use Rattle.ir_model.specs.declared.function.Function.{Function}
use Rattle.flow_graph.specs.Graph.{IsMarked}
use Rattle.natural_loops.specs.Sides.{AreInTextOrder, IsEntering}
use Rattle.natural_loops.specs.Table.{loop_of}
use Rattle.natural_loops.proofs.Listing.{in_order_same}
use Rattle.natural_loops.proofs.sides.entering.Goals as goal

pub returns : goal.returns
returns c =
    let f : Function = c.args.c.now.function in
    let P : ℕ → Type 0 = IsMarked c.in_ok-marks.marks in
    let Q : ℕ → Type 0 = IsEntering f (loop_of c.args.region.now) in
    IfOk-weaker c.listed.result (λ found. AreInTextOrder f P found) (λ found. AreInTextOrder f Q found)
    (λ found are. in_order_same f P Q found c.in_ok-marks.ensures are) c.listed.ensures
