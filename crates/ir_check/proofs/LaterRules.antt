-- The places of the instructions that break a rule, where it isn't one on names and looks at one instruction alone; and
-- what comes of rules without a place.
use Rattle.std.proofs.Common.{rules, ◌≡◌, ℕ, zero, suc, true, false, List, [], ◌∷◌, Option, Some, None, map, filter}
use Rattle.std.proofs.Common.{slice_get, drop, refl, sym}
use Rattle.std.proofs.lemmas.Option.{same_Some}
use Rattle.std.proofs.lemmas.Bool.{both_ways}
use Rattle.ir_model.specs.declared.function.Function.{Function}
use Rattle.ir_model.specs.declared.signature.Signatures.{Signatures}
use Rattle.ir_model.specs.declared.rule.Rule.{Rule}
use Rattle.ir_model.specs.declared.rule.Rule.TheVariants as rule
use Rattle.ir_rules.specs.Spots.{Spot, spots, place}
use Rattle.ir_model.specs.declared.rule.Place.{Place}
use Rattle.ir_rules.specs.Rules.{broken, first_with, first_of}
use Rattle.ir_check.specs.Instrs.{breaking_spots}
use Rattle.ir_check.specs.Function.{is_later}

none_break : (xs : List Spot) → map place (filter (λ (spot : Spot). false) xs) ≡ []
none_break [] = refl
none_break (x ∷ xs) = none_break xs

-- the rules that look at more than one instruction
pub record IsSingle (r : Rule) : Type 0 where
  pub width : r ≡ rule.BadWidth → ⊥
  pub entry : r ≡ rule.EntryHasPredecessor → ⊥
  pub first : r ≡ rule.PhiNotFirst → ⊥
  pub entries : r ≡ rule.PhiEntries → ⊥
  pub limit : r ≡ rule.Limit → ⊥

pub breaking_places : (signatures : Signatures) (f : Function) (r : Rule) → is_later r ≡ true → IsSingle r
    → breaking_spots signatures f r (spots f) ≡ broken signatures f r
breaking_places signatures f rule.DuplicateName later single = absurd (both_ways false refl later)
breaking_places signatures f rule.UndefinedName later single = absurd (both_ways false refl later)
breaking_places signatures f rule.TypeMismatch later single = refl
breaking_places signatures f rule.LiteralOutOfRange later single = refl
breaking_places signatures f rule.BadWidth later single = absurd (single.width refl)
breaking_places signatures f rule.EntryHasPredecessor later single = absurd (single.entry refl)
breaking_places signatures f rule.PhiNotFirst later single = absurd (single.first refl)
breaking_places signatures f rule.PhiEntries later single = absurd (single.entries refl)
breaking_places signatures f rule.VoidValue later single = refl
breaking_places signatures f rule.DuplicateCase later single = refl
breaking_places signatures f rule.PointerPredicate later single = refl
breaking_places signatures f rule.CallMismatch later single = refl
breaking_places signatures f rule.ReturnType later single = refl
breaking_places signatures f rule.Limit later single = absurd (single.limit refl)
breaking_places signatures f rule.UseBeforeDef later single = none_break (spots f)

-- ---- rules one after another

with_none : (r : Rule) (places : List Place) (later : Option (Rule × Place)) → slice_get places 0 ≡ None
    → first_with r places later ≡ later
with_none r [] later none = refl
with_none r (place ∷ places) later none = search rules

-- a rule without a place may be left out
pub rule_passed : (places : Rule → List Place) (rules : List Rule) (i : ℕ) (r : Rule)
    → slice_get rules i ≡ Some r → slice_get (places r) 0 ≡ None
    → first_of places (drop (suc i) rules) ≡ first_of places (drop i rules)
rule_passed places [] i r is none = search rules
rule_passed places (x ∷ rules) zero r is none =
    let same : x ≡ r = same_Some x r is in
    sym (with_none x (places x) (first_of places rules) (rw same none))
rule_passed places (x ∷ rules) (suc i) r is none = rule_passed places rules i r is none
