-- What is looked at in one item after another.
use Rattle.std.specs.Prelude.{ℕ, Bool, false, List, [], map}
use Rattle.ir_model.specs.declared.item.Item.{Item}
use Rattle.ir_model.specs.declared.rule.Rule.{Rule}
use Rattle.ir_model.specs.declared.rule.Rule.TheVariants.{TypeMismatch, LiteralOutOfRange, BadWidth}
use Rattle.ir_model.specs.declared.rule.Place.{Place}
use Rattle.ir_model.specs.declared.rule.Place.TheVariants as at
use Rattle.ir_rules.specs.Spots.{repeated}
use Rattle.ir_rules.specs.Items.{numbered_names, same_item_name, is_mistyped, is_out_of_range, has_bad_width}

-- whether an item breaks a rule, of those that look at one alone
abbrev pub breaks_item : Rule → Item → Bool
breaks_item TypeMismatch item = is_mistyped item
breaks_item LiteralOutOfRange item = is_out_of_range item
breaks_item BadWidth item = has_bad_width item
breaks_item _ item = false

-- the places of the items whose name one before them has
abbrev pub duplicates : List Item → List Place
duplicates items =
    map (λ (named : ℕ × List ℕ). at.Item named.0) (repeated same_item_name [] (numbered_names 0 items))
