-- What a function's definitions leave in the rows of values and blocks that are defined.
use Rattle.std.specs.Prelude.{◌≡◌, ℕ, ◌==◌, ◌<◌, Bool, true, false, List, [], ◌∷◌, length, Option, Some, None}
use Rattle.std.specs.Prelude.{slice_get, slice_set, slice_index_or, if◌then◌else◌}
use Rattle.std.specs.List.{list_any, fold}
use Rattle.ir_model.specs.declared.function.Function.{Function}
use Rattle.ir_model.specs.declared.rule.Place.{Place}
use Rattle.ir_model.specs.declared.rule.Place.TheVariants.{Value, BlockAt}
use Rattle.ir_model.specs.Shapes.{defined_values, defined_blocks}
use Rattle.ir_rules.specs.Names.{duplicate_names}
use Rattle.ir_check.specs.declared.defined.Defined.{Defined}
use Rattle.ir_check.specs.declared.defined.Names.{Names}
use Rattle.ir_check.specs.declared.defined.Names.TheVariants.{Once, Again}

-- ---- one place

-- whether the place of a definition is known
abbrev pub has_place : Defined → Place → Bool
has_place defined (Value v) = slice_index_or defined.values v.0 false
has_place defined (BlockAt b) = slice_index_or defined.blocks b.0 false
has_place defined _ = false

abbrev pub with_place : Defined → Place → Defined
with_place defined (Value v) = record { values = slice_set defined.values v.0 true; blocks = defined.blocks }
with_place defined (BlockAt b) = record { values = defined.values; blocks = slice_set defined.blocks b.0 true }
with_place defined _ = defined

-- The rows have a bit for the place.
abbrev pub HasRoom : Defined → Place → Type 0
HasRoom defined (Value v) = v.0 < length defined.values
HasRoom defined (BlockAt b) = b.0 < length defined.blocks
HasRoom defined _ = Unit {0}

-- ---- one place after another

-- the first place that was defined before
abbrev pub first_again : Defined → List Place → Option Place
first_again defined [] = None
first_again defined (at ∷ more) = if has_place defined at then Some at else first_again (with_place defined at) more

abbrev pub with_places : Defined → List Place → Defined
with_places defined places = fold with_place defined places

abbrev pub HaveRoom : Defined → List Place → Type 0
HaveRoom defined [] = Unit {0}
HaveRoom defined (at ∷ more) = HasRoom defined at × HaveRoom (with_place defined at) more

-- ---- functions

-- The rows tell which values and blocks a function defines.
pub record Defines (defined : Defined) (f : Function) : Type 0 where
  pub values : (v : ℕ) → slice_index_or defined.values v false ≡ list_any (λ w. w == v) (defined_values f)
  pub blocks : (b : ℕ) → slice_index_or defined.blocks b false ≡ list_any (λ c. c == b) (defined_blocks f)

-- what a function defines, where each name is defined once, or else the first place at which one is defined again
abbrev pub AreNames : Function → Names → Type 0
AreNames f (Once defined) = (duplicate_names f ≡ []) × Defines defined f
AreNames f (Again at) = slice_get (duplicate_names f) 0 ≡ Some at
