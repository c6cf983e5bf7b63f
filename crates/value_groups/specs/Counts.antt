-- How many phis of a component come before a value.
use Rattle.std.specs.Prelude.{◌≡◌, ◌==◌, ◌&&◌, ℕ, zero, suc, ◌<◌, Bool, false, List, [], ◌∷◌, ◌++◌, length}
use Rattle.std.specs.Prelude.{if◌then◌else◌, slice_index_or}

-- whether a value is a phi of a component, where these are the values that count as phis, and these the components
abbrev pub is_phi_of : List Bool → List ℕ → ℕ → ℕ → Bool
is_phi_of turns components c v = slice_index_or turns v false && (slice_index_or components v 0 == c)

-- the phis of a component among the first values
unfoldable pub phis_of : List Bool → List ℕ → ℕ → ℕ → List ℕ
phis_of turns components c zero = []
phis_of turns components c (suc v) =
    phis_of turns components c v ++ (if is_phi_of turns components c v then v ∷ [] else [])

-- for each value how many phis before it are of its component
pub record AreCounted (turns : List Bool) (components places : List ℕ) : Type 0 where
  pub size : length places ≡ length components
  pub each : (v : ℕ) → v < length components
      → slice_index_or places v 0 ≡ length (phis_of turns components (slice_index_or components v 0) v)
