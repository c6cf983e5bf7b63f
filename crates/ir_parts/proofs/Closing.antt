-- Reading to a closing bracket, token by token.
use Rattle.std.proofs.Common.{◌≡◌, ℕ, suc, ◌+◌, ◌-◌, true, false, List, [], ◌∷◌, length, reverse, Option, Some, None, Ok, Err, refl, sym, ap, ◌∙◌, arith}
use Rattle.std.proofs.lemmas.List.{length-reverse}
use Rattle.ir_text.specs.declared.token.TokenKind.{TokenKind}
use Rattle.ir_text.specs.Tokens.{Lexeme}
use Rattle.ir_lex.specs.Tokenized.{Tokenized}
use Rattle.ir_parts.specs.Reading.{left_from}
use Rattle.ir_parts.specs.BracketsReading.{bracket_of_parts, behind_bracket, or_refuse, closed_at, Follows}
use Rattle.ir_parts.proofs.Places.{length_left}

follows_on : (next : Option (List ℕ)) (now : List ℕ) (ts : List Lexeme) (left : ℕ) → Follows next now true
    → or_refuse next (λ waited. closed_at waited ts) left ≡ closed_at now ts
follows_on (Some waited) now ts left e = ap (λ (waited : List ℕ). closed_at waited ts) (sym e)
follows_on None now ts left e = absurd e

follows_not : (next : Option (List ℕ)) (now : List ℕ) (ts : List Lexeme) (left : ℕ) → Follows next now false
    → or_refuse next (λ waited. closed_at waited ts) left ≡ Err left
follows_not (Some waited) now ts left e = absurd e
follows_not None now ts left e = refl

pub closed_forth : (t : Tokenized) (at : ℕ) (kind : TokenKind) (text waited now : List ℕ)
    → left_from t at ≡ record { kind = kind; text = text } ∷ left_from t (at + 1) → (waited ≡ [] → ⊥)
    → Follows (behind_bracket (bracket_of_parts kind text) waited) now true
    → closed_at waited (left_from t at) ≡ closed_at now (left_from t (at + 1))
unfolding closed_at
closed_forth t at kind text [] now is some follows = absurd (some refl)
closed_forth t at kind text (w ∷ waited) now is some follows =
    ap (closed_at (w ∷ waited)) is
    ∙ follows_on (behind_bracket (bracket_of_parts kind text) (w ∷ waited)) now (left_from t (at + 1))
    (suc (length (left_from t (at + 1)))) follows

pub closed_refuses : (t : Tokenized) (at : ℕ) (kind : TokenKind) (text waited now : List ℕ)
    → left_from t at ≡ record { kind = kind; text = text } ∷ left_from t (at + 1) → (waited ≡ [] → ⊥)
    → Follows (behind_bracket (bracket_of_parts kind text) waited) now false
    → closed_at waited (left_from t at) ≡ Err (length t.tokens - at)
unfolding closed_at
closed_refuses t at kind text [] now is some follows = absurd (some refl)
closed_refuses t at kind text (w ∷ waited) now is some follows =
    ap (closed_at (w ∷ waited)) is
    ∙ (follows_not (behind_bracket (bracket_of_parts kind text) (w ∷ waited)) now (left_from t (at + 1))
    (suc (length (left_from t (at + 1)))) follows
    ∙ ap (λ (n : ℕ). Err n) (ap length (sym is) ∙ length_left t at))

pub closed_ends : (t : Tokenized) (at : ℕ) (waited : List ℕ) → left_from t at ≡ [] → (waited ≡ [] → ⊥)
    → closed_at waited (left_from t at) ≡ Err (length t.tokens - at)
unfolding closed_at
closed_ends t at [] is some = absurd (some refl)
closed_ends t at (w ∷ waited) is some =
    ap (closed_at (w ∷ waited)) is ∙ ap (λ (n : ℕ). Err n) (ap length (sym is) ∙ length_left t at)

pub some_reversed : (xs : List ℕ) → (xs ≡ [] → ⊥) → reverse xs ≡ [] → ⊥
some_reversed [] some e = some refl
some_reversed (x ∷ xs) some e = absurd (omega (arith, ap length e, length-reverse (x ∷ xs)))

pub closed_done : (ts : List Lexeme) → closed_at [] ts ≡ Ok (tt, ts)
unfolding closed_at
closed_done [] = refl
closed_done (t ∷ ts) = refl
