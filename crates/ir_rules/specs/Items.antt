-- Rules on what stands outside functions: names, initialisers, widths and limits of the items of a module.
use mathlib.Core.Former.{Count}
use Rattle.std.specs.Prelude.{ℕ, suc, ◌==◌, Bool, true, false, not, ◌&&◌, nat_lt, List, [], ◌∷◌, ◌++◌, length, map, Option, Some, None, if◌then◌else◌}
use Rattle.std.specs.List.{list_all}
use Rattle.std.specs.Str.{bytes_eq}
use Rattle.ir_model.specs.declared.types.IrType.{IrType}
use Rattle.ir_model.specs.declared.types.IrType.TheVariants.{Int, Array}
use Rattle.ir_model.specs.declared.op.Operand.{Operand}
use Rattle.ir_model.specs.declared.op.Operand.TheVariants as operand
use Rattle.ir_model.specs.declared.item.Init.{Init, Row_of-Init, end_of-Init, more_of-Init, Row_of-InitPart, end_of-InitPart, more_of-InitPart}
use Rattle.ir_model.specs.declared.item.Init.TheVariants as init
use Rattle.ir_model.specs.declared.item.DeclaredParam.{DeclaredParam}
use Rattle.ir_model.specs.declared.item.Item.{Item}
use Rattle.ir_model.specs.declared.item.Item.TheVariants as item
use Rattle.ir_model.specs.declared.item.Module.{Module}
use Rattle.ir_model.specs.declared.rule.Place.{Place}
use Rattle.ir_model.specs.declared.rule.Place.TheVariants as at
use Rattle.ir_rules.specs.Spots.{repeated}
use Rattle.ir_rules.specs.Names.{unless}
use Rattle.ir_rules.specs.Types.{is_int, is_pointer, same_type, literal_fits, is_wide, is_whole}
use Rattle.ir_rules.specs.Limits.{is_within, function_limit}

-- the items that break a rule, of a list whose first item has this number
abbrev pub items_where : (Item → Bool) → ℕ → List Item → List Place
items_where breaks n [] = []
items_where breaks n (x ∷ xs) = unless (not (breaks x)) (at.Item n) ++ items_where breaks (suc n) xs

-- ---- a name is defined twice

abbrev pub name_of : Item → Option (List ℕ)
name_of (item.PassedOn text) = None
name_of (item.Global g) = Some g.name
name_of (item.Declare d) = Some d.name
name_of (item.Define f) = Some f.name

abbrev pub with_number : ℕ → Option (List ℕ) → List (ℕ × List ℕ) → List (ℕ × List ℕ)
with_number n None more = more
with_number n (Some name) more = (n, name) ∷ more

abbrev pub numbered_names : ℕ → List Item → List (ℕ × List ℕ)
numbered_names n [] = []
numbered_names n (x ∷ xs) = with_number n (name_of x) (numbered_names (suc n) xs)

abbrev pub same_item_name : ℕ × List ℕ → ℕ × List ℕ → Bool
same_item_name one other = bytes_eq one.1 other.1

abbrev pub duplicate_items : Module → List Place
duplicate_items m =
    map (λ (named : ℕ × List ℕ). at.Item named.0) (repeated same_item_name [] (numbered_names 0 m.items))

-- ---- an initialiser isn't of its global's type

abbrev pub literal_stands : IrType → Operand → Bool
literal_stands kind (operand.Num n) = is_int kind
literal_stands kind operand.Null = is_pointer kind
literal_stands kind operand.Undef = true
literal_stands kind operand.Poison = true
literal_stands kind _ = false

-- the type of an array's parts
abbrev pub part_type : List ℕ → ℕ → IrType
part_type [] width = Int width
part_type (d ∷ dims) width = Array (d ∷ dims) width

-- A byte string is an array of so many `i8`, a list one of so many parts of one type; `zeroinitializer`, `undef` and
-- `poison` have the type of their place.
abbrev pub parts_of : {n : Count} → Row_of-InitPart n → ℕ
parts_of (end_of-InitPart) = 0
parts_of (more_of-InitPart kind pointer value rest) = suc (parts_of rest)

-- the type of the parts of an array of so many parts, where the type is one
abbrev pub parts_type : IrType → ℕ → Option IrType
parts_type (Array (d ∷ dims) width) parts = if d == parts then Some (part_type dims width) else None
parts_type kind parts = None

abbrev mutual
  pub init_fits : IrType → Init → Bool
  init_fits kind (init.Literal value) = literal_stands kind value
  init_fits kind init.Zero = true
  init_fits kind (init.Bytes text) = same_type kind (Array (length text ∷ []) 8)
  init_fits kind (init.List' count parts) = parts_fit (parts_type kind (parts_of parts)) parts

  -- the one initialiser that a part holds
  pub held_fits : {n : Count} → IrType → Row_of-Init n → Bool
  held_fits kind (end_of-Init) = true
  held_fits kind (more_of-Init value rest) = init_fits kind value

  pub parts_fit : {n : Count} → Option IrType → Row_of-InitPart n → Bool
  parts_fit None parts = false
  parts_fit (Some kind) (end_of-InitPart) = true
  parts_fit (Some kind) (more_of-InitPart own pointer value rest) =
      same_type kind own && held_fits own value && parts_fit (Some kind) rest

abbrev pub initialiser_fits : IrType → Option Init → Bool
initialiser_fits kind None = true
initialiser_fits kind (Some value) = init_fits kind value

abbrev pub is_mistyped : Item → Bool
is_mistyped (item.Global g) = not (initialiser_fits g.kind g.init)
is_mistyped _ = false

-- ---- a numeral of an initialiser is out of range

abbrev mutual
  pub init_in_range : IrType → Init → Bool
  init_in_range kind (init.Literal value) = literal_fits kind value
  init_in_range kind init.Zero = true
  init_in_range kind (init.Bytes text) = true
  init_in_range kind (init.List' count parts) = parts_in_range parts

  pub held_in_range : {n : Count} → IrType → Row_of-Init n → Bool
  held_in_range kind (end_of-Init) = true
  held_in_range kind (more_of-Init value rest) = init_in_range kind value

  pub parts_in_range : {n : Count} → Row_of-InitPart n → Bool
  parts_in_range (end_of-InitPart) = true
  parts_in_range (more_of-InitPart own pointer value rest) = held_in_range own value && parts_in_range rest

abbrev pub initialiser_in_range : IrType → Option Init → Bool
initialiser_in_range kind None = true
initialiser_in_range kind (Some value) = init_in_range kind value

abbrev pub is_out_of_range : Item → Bool
is_out_of_range (item.Global g) = not (initialiser_in_range g.kind g.init)
is_out_of_range _ = false

-- ---- widths of a global, and of the types of a declaration

abbrev pub has_bad_width : Item → Bool
has_bad_width (item.Global g) = not (is_whole g.kind)
has_bad_width (item.Declare d) =
    not (is_wide d.ret && list_all (λ (p : DeclaredParam). is_wide p.kind) d.params)
has_bad_width _ = false

-- ---- limits: of the types of globals, and of the number of functions with a body, of which so many stand before

abbrev pub is_past : ℕ → Item → Bool
is_past functions (item.Global g) = not (is_within g.kind)
is_past functions (item.Define f) = not (nat_lt functions function_limit)
is_past functions _ = false

abbrev pub functions_behind : ℕ → Item → ℕ
functions_behind functions (item.Define f) = suc functions
functions_behind functions _ = functions

abbrev pub items_past : ℕ → ℕ → List Item → List Place
items_past functions n [] = []
items_past functions n (x ∷ xs) =
    unless (not (is_past functions x)) (at.Item n) ++ items_past (functions_behind functions x) (suc n) xs
