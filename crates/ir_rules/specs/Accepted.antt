-- When a module is accepted, and at which rule, function and place it is refused.
use Rattle.std.specs.Prelude.{◌≡◌, ◌⊎◌, ℕ, ◌<◌, List, [], ◌∷◌, ◌++◌, Some, None, flat_map, slice_get}
use Rattle.ir_model.specs.declared.function.Function.{Function}
use Rattle.ir_model.specs.declared.item.Item.{Item}
use Rattle.ir_model.specs.declared.item.Item.TheVariants as item
use Rattle.ir_model.specs.declared.item.Module.{Module}
use Rattle.ir_model.specs.declared.signature.Signatures.{Signatures}
use Rattle.ir_model.specs.declared.rule.Rule.{Rule}
use Rattle.ir_model.specs.declared.rule.Rule.TheVariants.{UseBeforeDef}
use Rattle.ir_model.specs.declared.rule.Place.{Place}
use Rattle.ir_model.specs.declared.rule.Place.TheVariants.{UseIn}
use Rattle.ir_model.specs.Places.{signatures_of}
use Rattle.ir_rules.specs.Uses.{Use, UsesAreDefined, IsFirstBroken}
use Rattle.ir_rules.specs.Rules.{first_broken, first_item_broken}

-- The rules of shape hold of a function, and the rule on uses.
pub record IsAccepted (signatures : Signatures) (f : Function) : Type 0 where
  pub shape : first_broken signatures f ≡ None
  pub uses : UsesAreDefined f

-- The first rule that a function breaks, with its first place: one of shape, or, where these hold, the one on uses.
abbrev pub IsBrokenAt : Signatures → Function → Rule → Place → Type 0
IsBrokenAt signatures f rule place = (first_broken signatures f ≡ Some (rule, place))
    ⊎ ((first_broken signatures f ≡ None) × (rule ≡ UseBeforeDef) × (use_ : Use) × IsFirstBroken f use_
    × (place ≡ UseIn (record { 0 = use_.value }) (record { 0 = use_.user })))

-- the functions with a body, in order
abbrev pub body_of : Item → List Function
body_of (item.Define f) = f ∷ []
body_of _ = []

abbrev pub functions_of : Module → List Function
functions_of m = flat_map body_of m.items

-- A module is accepted: what stands outside functions breaks no rule, and no function does.
pub record IsAcceptedModule (m : Module) : Type 0 where
  pub items : first_item_broken m ≡ None
  pub functions : (k : ℕ) (f : Function) → slice_get (functions_of m) k ≡ Some f → IsAccepted (signatures_of m) f

-- A module is refused at a rule of what stands outside functions; or, where these hold, in the first function that
-- isn't accepted, by its number from 0.
pub record IsFunctionFault (m : Module) (rule : Rule) (number : ℕ) (place : Place) : Type 0 where
  pub items : first_item_broken m ≡ None
  pub function : Function
  pub at : slice_get (functions_of m) number ≡ Some function
  pub broken : IsBrokenAt (signatures_of m) function rule place
  pub first : (k : ℕ) (f : Function) → k < number → slice_get (functions_of m) k ≡ Some f
      → IsAccepted (signatures_of m) f

abbrev pub IsFault : Module → Rule → ℕ → Place → Type 0
IsFault m rule number place =
    ((first_item_broken m ≡ Some (rule, place)) × (number ≡ 0)) ⊎ IsFunctionFault m rule number place
