-- Names that are added to a list, each once.
use Rattle.std.specs.Prelude.{◌≡◌, Bool, if◌then◌else◌, List, [], ◌∷◌, ◌++◌}
use Rattle.std.specs.List.{list_any}

module _ {A : Type 0} (same : A → A → Bool) where
  -- the names, and this one behind them where it is none of them
  abbrev pub with_name : List A → A → List A
  with_name names name = if list_any (same name) names then names else names ++ name ∷ []

  -- the names, and each of these behind them where it is none of those before
  abbrev pub with_names : List A → List A → List A
  with_names names [] = names
  with_names names (name ∷ more) = with_names (with_name names name) more

-- The names stand in front of more.
pub record IsPrefix {A : Type 0} (names more : List A) : Type 0 where
  pub rest : List A
  pub whole : more ≡ names ++ rest
