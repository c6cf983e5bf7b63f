-- The first place of each name of a list.
use Rattle.std.specs.Prelude.{◌≡◌, ℕ, false, List, MatchOption}
use Rattle.std.specs.Borrow.{Bor}
use Rattle.std.specs.List.{list_any}
use Rattle.std.specs.Str.{bytes_eq}
use Rattle.std.specs.HashMap.{HashMap, get_by}
use Rattle.ir_grammar.specs.Numbering.{IsFirstPlace}

-- The map gives the first place of each name of the list, and of each other one nothing.
abbrev pub AreFirstPlaces : {S : Type 0} → HashMap (Bor (List ℕ)) ℕ S → List (List ℕ) → Type 0
AreFirstPlaces places names =
    (name : List ℕ) → MatchOption (get_by (λ k. bytes_eq name k.now) places)
    (list_any (bytes_eq name) names ≡ false) (IsFirstPlace names name)
