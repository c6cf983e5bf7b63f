-- The rules behind those on names.
use Rattle.std.specs.Prelude.{Bool, true, false, List, [], ◌∷◌}
use Rattle.ir_model.specs.declared.rule.Rule.{Rule}
use Rattle.ir_model.specs.declared.rule.Rule.TheVariants.{DuplicateName, UndefinedName, TypeMismatch, LiteralOutOfRange}
use Rattle.ir_model.specs.declared.rule.Rule.TheVariants.{BadWidth, EntryHasPredecessor, PhiNotFirst, PhiEntries}
use Rattle.ir_model.specs.declared.rule.Rule.TheVariants.{VoidValue, DuplicateCase, PointerPredicate, CallMismatch}
use Rattle.ir_model.specs.declared.rule.Rule.TheVariants.{ReturnType, Limit}

abbrev pub later_rules : List Rule
later_rules = TypeMismatch ∷ LiteralOutOfRange ∷ BadWidth ∷ EntryHasPredecessor ∷ PhiNotFirst ∷ PhiEntries ∷ VoidValue
    ∷ DuplicateCase ∷ PointerPredicate ∷ CallMismatch ∷ ReturnType ∷ Limit ∷ []

-- whether a rule isn't one on names
abbrev pub is_later : Rule → Bool
is_later DuplicateName = false
is_later UndefinedName = false
is_later rule = true
