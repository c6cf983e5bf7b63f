-- The rules in their order, and the first one that is broken.
use Rattle.std.specs.Prelude.{List, [], ◌∷◌, Option, Some, None, map}
use Rattle.ir_model.specs.declared.function.Function.{Function}
use Rattle.ir_model.specs.declared.item.Module.{Module}
use Rattle.ir_model.specs.declared.signature.Signatures.{Signatures}
use Rattle.ir_model.specs.declared.rule.Rule.{Rule}
use Rattle.ir_model.specs.declared.rule.Rule.TheVariants.{DuplicateName, UndefinedName, TypeMismatch, LiteralOutOfRange, BadWidth, EntryHasPredecessor, PhiNotFirst, PhiEntries, VoidValue, DuplicateCase, PointerPredicate, CallMismatch, ReturnType, Limit, UseBeforeDef}
use Rattle.ir_model.specs.declared.rule.Place.{Place}
use Rattle.ir_rules.specs.Names.{duplicate_names, undefined_names}
use Rattle.ir_rules.specs.Types.{type_mismatches, literals_out_of_range, bad_widths}
use Rattle.ir_rules.specs.Blocks.{entry_targets, late_phis, bad_entries}
use Rattle.ir_rules.specs.Values.{void_values, duplicate_cases, pointer_predicates, call_mismatches, bad_returns}
use Rattle.ir_rules.specs.Limits.{past_limits}
use Rattle.ir_rules.specs.Items.{items_where, duplicate_items, is_mistyped, is_out_of_range, has_bad_width, items_past}

-- the places at which a function breaks a rule, in text order; the rule on uses is one on walks, and stands apart
abbrev pub broken : Signatures → Function → Rule → List Place
broken signatures f DuplicateName = duplicate_names f
broken signatures f UndefinedName = undefined_names signatures f
broken signatures f TypeMismatch = type_mismatches f
broken signatures f LiteralOutOfRange = literals_out_of_range f
broken signatures f BadWidth = bad_widths f
broken signatures f EntryHasPredecessor = entry_targets f
broken signatures f PhiNotFirst = late_phis f
broken signatures f PhiEntries = bad_entries f
broken signatures f VoidValue = void_values f
broken signatures f DuplicateCase = duplicate_cases f
broken signatures f PointerPredicate = pointer_predicates f
broken signatures f CallMismatch = call_mismatches signatures f
broken signatures f ReturnType = bad_returns f
broken signatures f Limit = past_limits f
broken signatures f UseBeforeDef = []

-- the rules of a function's shape, in the order in which they are looked at
abbrev pub shape_rules : List Rule
shape_rules = DuplicateName ∷ UndefinedName ∷ TypeMismatch ∷ LiteralOutOfRange ∷ BadWidth ∷ EntryHasPredecessor
    ∷ PhiNotFirst ∷ PhiEntries ∷ VoidValue ∷ DuplicateCase ∷ PointerPredicate ∷ CallMismatch ∷ ReturnType ∷ Limit ∷ []

-- the places at which what stands outside functions breaks a rule
abbrev pub items_broken : Module → Rule → List Place
items_broken m DuplicateName = duplicate_items m
items_broken m TypeMismatch = items_where is_mistyped 0 m.items
items_broken m LiteralOutOfRange = items_where is_out_of_range 0 m.items
items_broken m BadWidth = items_where has_bad_width 0 m.items
items_broken m Limit = items_past 0 0 m.items
items_broken m _ = []

-- the rules of the items of a module, in their order
abbrev pub item_rules : List Rule
item_rules = DuplicateName ∷ TypeMismatch ∷ LiteralOutOfRange ∷ BadWidth ∷ Limit ∷ []

-- the first rule that has a place, with its first place
abbrev pub first_with : Rule → List Place → Option (Rule × Place) → Option (Rule × Place)
first_with rule [] later = later
first_with rule (at ∷ more) later = Some (rule, at)

abbrev pub first_of : (Rule → List Place) → List Rule → Option (Rule × Place)
first_of places [] = None
first_of places (rule ∷ rules) = first_with rule (places rule) (first_of places rules)

abbrev pub first_broken : Signatures → Function → Option (Rule × Place)
first_broken signatures f = first_of (broken signatures f) shape_rules

abbrev pub first_item_broken : Module → Option (Rule × Place)
first_item_broken m = first_of (items_broken m) item_rules
