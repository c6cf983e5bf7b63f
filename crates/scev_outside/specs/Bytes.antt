-- What a call takes from a source or adds to a sink. None is the content of an object that doesn't tell it.
use Rattle.std.specs.Prelude.{◌≡◌, ℕ, List, ◌++◌, Option, Some, None}

-- The piece went from the front of what was left.
abbrev pub Gave : Option (List ℕ) → List ℕ → Option (List ℕ) → Type 0
Gave None piece new = new ≡ None
Gave (Some bytes) piece new = (rest : List ℕ) × (bytes ≡ piece ++ rest) × (new ≡ Some rest)

-- The piece was added at the end of what was taken.
abbrev pub Appended : Option (List ℕ) → List ℕ → Option (List ℕ) → Type 0
Appended None piece new = new ≡ None
Appended (Some bytes) piece new = new ≡ Some (bytes ++ piece)

-- A front of the text was added, maybe the whole.
abbrev pub AppendedFront : Option (List ℕ) → List ℕ → Option (List ℕ) → Type 0
AppendedFront old text new = (front : List ℕ) × (rest : List ℕ) × (text ≡ front ++ rest) × Appended old front new
