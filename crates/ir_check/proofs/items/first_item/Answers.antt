use Rattle.std.proofs.Common.{ap, ◌∙◌, List, slice_get}
use Rattle.ir_model.specs.declared.item.Item.{Item}
use Rattle.ir_rules.specs.Items.{items_where}
use Rattle.ir_check.specs.Items.{breaks_item}
use Rattle.ir_check.proofs.ItemRules.{breaking_places}
use Rattle.ir_check.proofs.items.first_item.Goals as goal

pub returns-in_default : goal.returns-in_default
returns-in_default c = c.breaking_item.ensures
    ∙ (ap (λ (items : List Item). slice_get (items_where (breaks_item c.args.rule) 0 items) 0) c.as_slice-items.ensures
    ∙ ap (λ places. slice_get places 0)
    (breaking_places c.args.m.now c.args.rule c.in_default.not-DuplicateName c.in_default.not-Limit))
