-- Where tokens stand.
use Rattle.std.specs.Prelude.{ℕ, ◌≤◌, ◌<◌, List, [], ◌∷◌, length}
use Rattle.std.specs.List.{slice_range}
use Rattle.ir_text.specs.declared.token.Token.{Token}
use Rattle.ir_text.specs.Tokens.{IsGap}

-- From a place on, the tokens stand one after another, each after blanks and comments alone.
abbrev pub AreInOrder : List ℕ → ℕ → List Token → Type 0
AreInOrder bytes at [] = Unit {0}
AreInOrder bytes at (t ∷ ts) =
    (at ≤ t.from) × (t.from < t.to) × (t.to ≤ length bytes)
    × IsGap (slice_range bytes at t.from) × AreInOrder bytes t.to ts
