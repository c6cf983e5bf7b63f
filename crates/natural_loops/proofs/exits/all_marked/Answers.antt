use Rattle.std.proofs.Common.{All, List, refl, sym, ◌∙◌, subst}
use Rattle.std.proofs.lemmas.List.{take_all}
use Rattle.std.proofs.lemmas.List.Elements.{All-more}
use Rattle.scev_base.specs.declared.ids.BlockId.{BlockId as Block}
use Rattle.flow_graph.specs.Graph.{IsMarked}
use Rattle.natural_loops.proofs.exits.all_marked.Goals as goal

pub loop-b-preserved : goal.loop-b-preserved
loop-b-preserved c =
    let P : Block → Type 0 = λ b. IsMarked c.args.marks.now b.0 in
    let i = c.loop-b.b-index in
    let d : Block = record { 0 = 0 } in
    All-more P c.args.blocks.now i d c.loop-b-test.true c.loop-b.invariant (sym c.get.ensures ∙ c.if-not-get.false)

pub returns : goal.returns
returns c =
    let P : Block → Type 0 = λ b. IsMarked c.args.marks.now b.0 in
    let all : All P c.args.blocks.now = subst (λ (xs : List Block). All P xs)
    (take_all c.loop-b.b-index c.args.blocks.now c.loop-b-test.false) c.loop-b.invariant in
    ((λ h. all), (λ h. refl))
