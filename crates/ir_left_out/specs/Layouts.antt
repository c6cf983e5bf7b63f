-- What stands before a data layout, and what a data layout has that is left out.
use Rattle.std.specs.Prelude.{◌≡◌, ℕ, ◌+◌, List, [], ◌∷◌, ◌++◌, Option, MatchOption, codes}
use Rattle.ir_text.specs.declared.token.TokenKind.TheVariants.{Quoted}
use Rattle.ir_text.specs.Tokens.{Lexeme}
use Rattle.ir_text.specs.Listed.{word, sign}
use Rattle.ir_grammar.specs.Layout.{IsLayoutFault}
use Rattle.ir_parts.specs.Reading.{Read, ◌>>=◌, keyword_at, punctuation_at}

-- The tokens end with `target datalayout =`.
abbrev pub EndsTarget : List Lexeme → Type 0
EndsTarget before = (front : List Lexeme)
    × (before ≡ front ++ word (codes "target") ∷ word (codes "datalayout") ∷ sign 61 ∷ [])

-- Between the quotes of the text this is left out, and it begins so many bytes behind the first quote's own place.
abbrev pub IsQuotedFault : List ℕ → ℕ → ℕ → Type 0
IsQuotedFault text number behind = (inner : List ℕ) × (text ≡ 34 ∷ (inner ++ 34 ∷ [])) × (offset : ℕ)
    × IsLayoutFault inner number offset × (behind ≡ 1 + offset)

-- The token is a data layout, by the tokens before it, and this is left out.
abbrev pub IsFaultyLayout : List Lexeme → Lexeme → ℕ → ℕ → Type 0
IsFaultyLayout before t number behind = EndsTarget before × (t.kind ≡ Quoted) × IsQuotedFault t.text number behind

-- what is found, where something is: its number, and where it stands
abbrev pub Finds : (ℕ → ℕ → Type 0) → Option (ℕ × ℕ) → Type 0
Finds Is found = MatchOption found ((number behind : ℕ) → Is number behind → ⊥) (λ fault. Is fault.0 fault.1)

-- `target datalayout =`
unfoldable pub target_at : Read (Unit {0})
target_at = do
  _ ← keyword_at (codes "target")
  _ ← keyword_at (codes "datalayout")
  punctuation_at 61
