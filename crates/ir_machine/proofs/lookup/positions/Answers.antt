use Rattle.std.specs.Prelude.{◌<◌, length, Contains, refl}
use Rattle.std.proofs.Common.{List, map, flat_map, sym, subst, arith}
use Rattle.std.proofs.lemmas.List.Elements.{All-contains, Contains-append_right}
use Rattle.ir_model.specs.declared.function.Param.{Param}
use Rattle.ir_model.specs.declared.function.Block.{Block}
use Rattle.ir_model.specs.declared.function.Function.{Function}
use Rattle.ir_model.specs.Sites.{DefinesValue, DefinesBlock, block_sites, function_sites}
use Rattle.ir_model.specs.WellMade.{IsInTable, HasIds}
use Rattle.never_stuck.proofs.Elements.{flat_map_has}
use Rattle.ir_machine.proofs.lookup.positions.Goals as goal

-- the number of a block stands in the table of blocks
block_labelled : (f : Function) (block : Block) → HasIds f → Contains f.blocks block → block.id.0 < length f.labels
unfolding HasIds
block_labelled f block ids there =
    let site = DefinesBlock block.id.0 in
    All-contains (IsInTable f) (function_sites f) site ids
    (Contains-append_right (map (λ (p : Param). DefinesValue p.value.0) f.params) (flat_map block_sites f.blocks) site
    (flat_map_has block_sites f.blocks block site there (0, omega arith, refl)))

pub index_mut-requires : goal.index_mut-requires
index_mut-requires c =
    let block = c.block-item.result in
    let listed : Contains c.as_slice-block-items.result.now block =
    (c.loop-at.at, c.loop-at-test.true, sym c.block-item.is) in
    let there = subst (λ (blocks : List Block). Contains blocks block) c.as_slice-block-items.ensures listed in
    omega (arith, block_labelled c.args.f.now block c.requires there, c.loop-at.invariant)
