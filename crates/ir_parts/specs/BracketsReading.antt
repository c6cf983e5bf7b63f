-- Reading to the bracket that closes what is open, whatever stands before it, where the brackets match.
use Rattle.std.specs.Prelude.{◌≡◌, ℕ, suc, Bool, true, false, ◌||◌, ◌==◌, if◌then◌else◌, List, [], ◌∷◌, length, Option, Some, None, Result, Ok, Err}
use Rattle.std.specs.Str.{bytes_eq}
use Rattle.ir_text.specs.declared.token.TokenKind.{TokenKind}
use Rattle.ir_text.specs.declared.token.TokenKind.TheVariants.{Sign}
use Rattle.ir_text.specs.Tokens.{Lexeme}
use Rattle.ir_parts.specs.declared.brackets.Bracket.{Bracket}
use Rattle.ir_parts.specs.declared.brackets.Bracket.TheVariants.{Opening, Closing, Plain, Wrong}
use Rattle.ir_parts.specs.Reading.{Read}

-- what a sign is; one that is written by another text is none
abbrev pub if_written : ℕ → List ℕ → Bracket → Bracket
if_written b text bracket = if bytes_eq text (b ∷ []) then bracket else Wrong

unfoldable pub bracket_of_sign : ℕ → List ℕ → Bracket
bracket_of_sign b text =
    if b == 40 then if_written b text (Opening 41)
    else (if b == 91 then if_written b text (Opening 93)
    else (if b == 123 then if_written b text (Opening 125)
    else (if (b == 41) || ((b == 93) || (b == 125)) then if_written b text (Closing b) else Plain)))

abbrev pub bracket_of_parts : TokenKind → List ℕ → Bracket
bracket_of_parts (Sign b) text = bracket_of_sign b text
bracket_of_parts _ text = Plain

abbrev pub bracket_of : Lexeme → Bracket
bracket_of t = bracket_of_parts t.kind t.text

-- ---- by what is open

-- the closing brackets that are waited for, the innermost first, behind one more token
abbrev pub behind_bracket : Bracket → List ℕ → Option (List ℕ)
behind_bracket (Opening c) waited = Some (c ∷ waited)
behind_bracket (Closing c) [] = None
behind_bracket (Closing c) (w ∷ waited) = if c == w then Some waited else None
behind_bracket Plain waited = Some waited
behind_bracket Wrong waited = None

-- what follows, where a token may stand there
abbrev pub or_refuse : Option (List ℕ) → (List ℕ → Result (Unit {0} × List Lexeme) ℕ) → ℕ
    → Result (Unit {0} × List Lexeme) ℕ
or_refuse (Some waited) goes_on left = goes_on waited
or_refuse None goes_on left = Err left

-- all brackets that are waited for, and what stands before them
unfoldable pub closed_at : List ℕ → Read (Unit {0})
closed_at [] [] = Ok (tt, [])
closed_at [] (t ∷ ts) = Ok (tt, t ∷ ts)
closed_at (w ∷ waited) [] = Err 0
closed_at (w ∷ waited) (t ∷ ts) =
    or_refuse (behind_bracket (bracket_of t) (w ∷ waited)) (λ waited. closed_at waited ts) (suc (length ts))

-- Whether a token may stand there, and what is waited for behind it.
abbrev pub Follows : Option (List ℕ) → List ℕ → Bool → Type 0
Follows (Some waited) now true = now ≡ waited
Follows None now false = Unit {0}
Follows _ now _ = ⊥
