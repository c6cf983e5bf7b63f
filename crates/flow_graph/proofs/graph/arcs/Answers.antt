use Rattle.std.proofs.Common.{◌≡◌, ◌-◌, ◌<◌, List, length, get_or, sym, ap, subst, arith}
use Rattle.std.proofs.lemmas.List.Elements.{All-get_or}
use Rattle.ir_model.specs.declared.function.Block.{Block}
use Rattle.flow_graph.proofs.IdLemmas.{IsLabelledBlock, labelled}
use Rattle.flow_graph.proofs.ArcLemmas.{HasExits, IsGraphOf_all}
use Rattle.flow_graph.proofs.graph.arcs.Goals as goal

pub set-requires : goal.set-requires
set-requires c =
    let f = c.args.f.now in
    let block = c.index-blocks-i.result in
    let at = c.loop-i.i - 1 in
    let is : block ≡ get_or f.blocks at block = subst (λ (blocks : List Block). block ≡ get_or blocks at block)
    c.as_slice-blocks.ensures c.index-blocks-i.is in
    let within : at < length f.blocks = omega
    (arith, ap (λ (blocks : List Block). length blocks) c.as_slice-blocks.ensures) in
    let own = subst (IsLabelledBlock f) (sym is)
    (All-get_or (IsLabelledBlock f) f.blocks at block within (labelled f c.requires)) in
    omega (arith, own.0, c.loop-i.invariant.size)

pub returns : goal.returns
returns c =
    let start : c.loop-i.i ≡ 0 = omega arith in
    IsGraphOf_all c.args.f.now c.loop-i.graph c.requires
    (subst (λ (blocks : List Block). HasExits c.args.f.now blocks c.loop-i.graph) c.as_slice-blocks.ensures
    (rw start at c.loop-i.invariant))
