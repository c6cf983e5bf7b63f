-- Which data layouts leave nothing out.
use Rattle.std.specs.Prelude.{◌≡◌, ◌≢◌, ℕ, ◌+◌, List, [], ◌∷◌, ◌++◌, length, Contains, IsTrue, ◌⊎◌, codes}
use Rattle.std.specs.List.{list_all}
use Rattle.std.specs.Str.Parse.{digits_value}
use Rattle.ir_text.specs.declared.token.TokenKind.TheVariants.{Quoted}
use Rattle.ir_text.specs.Bytes.{is_digit, is_no_quote}
use Rattle.ir_text.specs.Tokens.{Lexeme}

-- the size is written as 64
abbrev pub IsSixtyFour : List ℕ → Type 0
IsSixtyFour size = (size ≢ []) × IsTrue (list_all is_digit size) × (digits_value 10 size ≡ 64)

-- The specification is of pointers of the default address space, and of another size than 64 bits.
abbrev pub IsOtherPointer : List ℕ → Type 0
IsOtherPointer spec = (front size rest : List ℕ) × (spec ≡ front ++ (size ++ rest))
    × ((front ≡ codes "p:") ⊎ (front ≡ codes "p0:"))
    × (Contains size 58 → ⊥) × ((rest ≡ []) ⊎ ((more : List ℕ) × (rest ≡ 58 ∷ more))) × (IsSixtyFour size → ⊥)

-- The specification is left out, under this number: `E` is 4, `p` is 5.
abbrev pub LeavesOut : List ℕ → ℕ → Type 0
LeavesOut spec word = ((spec ≡ codes "E") × (word ≡ 4)) ⊎ (IsOtherPointer spec × (word ≡ 5))

-- The first of the specifications, which stand between `-`, that is left out: its number, and its first byte from 0.
pub data IsLayoutFault : List ℕ → ℕ → ℕ → Type 0 where
  here : {text : List ℕ} {word : ℕ} (spec rest : List ℕ) → text ≡ spec ++ rest → (Contains spec 45 → ⊥)
      → (rest ≡ []) ⊎ ((more : List ℕ) × (rest ≡ 45 ∷ more)) → LeavesOut spec word → IsLayoutFault text word 0
  later : {text : List ℕ} {word at : ℕ} (spec rest : List ℕ) → text ≡ spec ++ 45 ∷ rest → (Contains spec 45 → ⊥)
      → ((other : ℕ) → LeavesOut spec other → ⊥) → IsLayoutFault rest word at
      → IsLayoutFault text word (length spec + (1 + at))

-- A string of a data layout that leaves nothing out.
abbrev pub IsLayout : Lexeme → Type 0
IsLayout t = (t.kind ≡ Quoted) × (inner : List ℕ) × (t.text ≡ 34 ∷ (inner ++ 34 ∷ []))
    × IsTrue (list_all is_no_quote inner)
    × ((word at : ℕ) → IsLayoutFault inner word at → ⊥)
