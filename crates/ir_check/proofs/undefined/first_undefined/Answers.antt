use Rattle.std.proofs.Common.{rules, slice_get, sym, ap, ◌∙◌}
use Rattle.ir_check.specs.Undefined.{undefined_block}
use Rattle.ir_check.proofs.FirstPlaces.{first_found, first_behind, first_past}
use Rattle.ir_check.proofs.UndefinedNames.{same_undefined}
use Rattle.ir_check.proofs.undefined.first_undefined.Goals as goal

pub loop-block-preserved : goal.loop-block-preserved
loop-block-preserved c =
    sym (first_behind (undefined_block c.args.defined.now c.args.globals) c.args.f.now.blocks c.loop-block.block-index
    c.block-item.result (search rules) (search rules) (search rules))
    ∙ c.loop-block.invariant

pub returns-in-Some : goal.returns-in-Some
returns-in-Some c = λ signatures count.
    sym (first_found (undefined_block c.args.defined.now c.args.globals) c.args.f.now.blocks c.loop-block.block-index
    c.block-item.result c.in-Some.place (search rules) (search rules) (search rules))
    ∙ c.loop-block.invariant
    ∙ ap (λ places. slice_get places 0)
    (sym (same_undefined c.args.defined.now c.args.globals c.args.f.now signatures c.requires count))

pub returns : goal.returns
returns c = λ signatures count.
    sym (first_past (undefined_block c.args.defined.now c.args.globals) c.args.f.now.blocks c.loop-block.block-index
    (search rules))
    ∙ c.loop-block.invariant
    ∙ ap (λ places. slice_get places 0)
    (sym (same_undefined c.args.defined.now c.args.globals c.args.f.now signatures c.requires count))
