use Rattle.std.proofs.Common.{rules, sym, ◌∙◌}
use Rattle.ir_model.specs.declared.function.Block.{Block}
use Rattle.ir_check.specs.Instrs.{late_places}
use Rattle.ir_check.proofs.FirstPlaces.{first_found, first_behind}
use Rattle.ir_check.proofs.edges.late_phi.Goals as goal

pub loop-block-preserved : goal.loop-block-preserved
loop-block-preserved c =
    sym (first_behind (λ (block : Block). late_places block.id.0 block.instrs) c.args.f.now.blocks
    c.loop-block.block-index c.block-item.result (search rules) (search rules) (search rules))
    ∙ c.loop-block.invariant

pub returns-in-Some : goal.returns-in-Some
returns-in-Some c =
    sym (first_found (λ (block : Block). late_places block.id.0 block.instrs) c.args.f.now.blocks
    c.loop-block.block-index c.block-item.result c.in-Some.place (search rules) (search rules) (search rules))
    ∙ c.loop-block.invariant
