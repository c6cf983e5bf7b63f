-- The first place of each function's name.
use Rattle.std.specs.Prelude.{◌≡◌, ℕ, List, Option, position}
use Rattle.std.specs.Borrow.{Bor}
use Rattle.std.specs.Str.{bytes_eq}
use Rattle.std.specs.HashMap.{HashMap, get_by}
use Rattle.ir_model.specs.declared.signature.Signature.{Signature}

-- the place that a map has for a name
abbrev pub place_in : {S : Type 0} → HashMap (Bor (List ℕ)) ℕ S → List ℕ → Option ℕ
place_in places name = get_by (λ k. bytes_eq name k.now) places

-- The map gives for each name the place of the first function of this name, where there is one.
abbrev pub AreFirstPlaces : {S : Type 0} → HashMap (Bor (List ℕ)) ℕ S → List Signature → Type 0
AreFirstPlaces places functions =
    (name : List ℕ) → place_in places name ≡ position (λ (s : Signature). bytes_eq s.name name) functions
