-- The places of the items that break a rule by themselves.
use Rattle.std.proofs.Common.{◌≡◌, ℕ, suc, false, List, [], ◌∷◌, refl}
use Rattle.ir_model.specs.declared.item.Item.{Item}
use Rattle.ir_model.specs.declared.item.Module.{Module}
use Rattle.ir_model.specs.declared.rule.Rule.{Rule}
use Rattle.ir_model.specs.declared.rule.Rule.TheVariants as rule
use Rattle.ir_rules.specs.Items.{items_where}
use Rattle.ir_rules.specs.Rules.{items_broken}
use Rattle.ir_check.specs.Items.{breaks_item}

none_where : (n : ℕ) (items : List Item) → items_where (λ x. false) n items ≡ []
none_where n [] = refl
none_where n (x ∷ items) = none_where (suc n) items

pub breaking_places : (m : Module) (r : Rule) → (r ≡ rule.DuplicateName → ⊥) → (r ≡ rule.Limit → ⊥)
    → items_where (breaks_item r) 0 m.items ≡ items_broken m r
breaking_places m rule.DuplicateName one other = absurd (one refl)
breaking_places m rule.Limit one other = absurd (other refl)
breaking_places m rule.TypeMismatch one other = refl
breaking_places m rule.LiteralOutOfRange one other = refl
breaking_places m rule.BadWidth one other = refl
breaking_places m rule.UndefinedName one other = none_where 0 m.items
breaking_places m rule.EntryHasPredecessor one other = none_where 0 m.items
breaking_places m rule.PhiNotFirst one other = none_where 0 m.items
breaking_places m rule.PhiEntries one other = none_where 0 m.items
breaking_places m rule.VoidValue one other = none_where 0 m.items
breaking_places m rule.DuplicateCase one other = none_where 0 m.items
breaking_places m rule.PointerPredicate one other = none_where 0 m.items
breaking_places m rule.CallMismatch one other = none_where 0 m.items
breaking_places m rule.ReturnType one other = none_where 0 m.items
breaking_places m rule.UseBeforeDef one other = none_where 0 m.items
