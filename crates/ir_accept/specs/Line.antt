-- The line about a module that isn't well formed.
use Rattle.std.specs.Prelude.{ℕ, List, [], ◌∷◌, ◌++◌, Option, Some, None, codes, decimal, slice_get}
use Rattle.ir_model.specs.declared.function.Function.{Function}
use Rattle.ir_model.specs.declared.item.Module.{Module}
use Rattle.ir_model.specs.declared.rule.Rule.{Rule}
use Rattle.ir_model.specs.declared.rule.Rule.TheVariants as rule
use Rattle.ir_model.specs.declared.rule.Place.{Place}
use Rattle.ir_model.specs.declared.rule.Place.TheVariants as place
use Rattle.ir_grammar.specs.Printing.{Shown, shown_in, name_text, block_text}
use Rattle.ir_rules.specs.Accepted.{functions_of}

-- the name of a rule
abbrev pub rule_name : Rule → List ℕ
rule_name rule.DuplicateName = codes "DuplicateName"
rule_name rule.UndefinedName = codes "UndefinedName"
rule_name rule.TypeMismatch = codes "TypeMismatch"
rule_name rule.LiteralOutOfRange = codes "LiteralOutOfRange"
rule_name rule.BadWidth = codes "BadWidth"
rule_name rule.EntryHasPredecessor = codes "EntryHasPredecessor"
rule_name rule.PhiNotFirst = codes "PhiNotFirst"
rule_name rule.PhiEntries = codes "PhiEntries"
rule_name rule.VoidValue = codes "VoidValue"
rule_name rule.DuplicateCase = codes "DuplicateCase"
rule_name rule.PointerPredicate = codes "PointerPredicate"
rule_name rule.CallMismatch = codes "CallMismatch"
rule_name rule.ReturnType = codes "ReturnType"
rule_name rule.Limit = codes "Limit"
rule_name rule.UseBeforeDef = codes "UseBeforeDef"

-- a place in a function: a value, a block, or a value's use in a block
abbrev pub place_text : Shown → Place → List ℕ
place_text shown (place.Value v) = 37 ∷ shown.values v.0
place_text shown (place.BlockAt b) = block_text shown b.0
place_text shown (place.UseIn v b) = 37 ∷ (shown.values v.0 ++ (codes " in " ++ block_text shown b.0))
place_text shown (place.Item n) = codes "item " ++ decimal n

-- where a rule is broken: an item of the module, or a place in the function with a body of this number
abbrev pub within_text : List (List ℕ) → Option Function → Place → List ℕ
within_text globals None at = []
within_text globals (Some f) at =
    codes "@" ++ (name_text f.name ++ (codes ": " ++ place_text (shown_in globals f) at))

abbrev pub where_text : Module → ℕ → Place → List ℕ
where_text m number (place.Item n) = codes "item " ++ decimal n
where_text m number at = within_text m.globals (slice_get (functions_of m) number) at

-- the line of a rule that is broken, with its line feed
abbrev pub fault_text : Module → Rule → ℕ → Place → List ℕ
fault_text m rule number at =
    codes "scev: rule " ++ (rule_name rule ++ (codes " in " ++ (where_text m number at ++ codes "\n")))
