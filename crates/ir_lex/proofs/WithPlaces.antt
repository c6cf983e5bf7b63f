-- Tokens with their places and without say the same: what is lexed to the end is the list of lexemes, and what is lexed
-- up to a place before the end has its first bad byte there.
use Rattle.std.proofs.Common.{ℕ, ◌≡◌, ◌+◌, ◌-◌, ◌<◌, ◌≤◌, List, [], ◌∷◌, ◌++◌, length, map, refl, ap, subst, arith, length-append}
use Rattle.std.specs.Prelude.{◌↔◌}
use Rattle.ir_text.specs.Tokens.{Lexeme, Placed, IsTokenAt, IsGap, IsBadByte, Lexed, ends_whole, ends_bad, goes_on, AreLexemes, end, more, IsFirstBad, here, later}
use Rattle.ir_text.specs.declared.token.TokenKind.{TokenKind}

-- the tokens without their places
abbrev pub lexemes_of : List Placed → List Lexeme
lexemes_of placed = map (λ p. p.lexeme) placed

-- The tokens of the whole text, which begins at this place.
pub record IsLexedWhole (at : ℕ) (bytes : List ℕ) (lexemes : List Lexeme) : Type 0 where
  pub placed : List Placed
  pub lexed : Lexed at bytes placed (at + length bytes)
  pub lexemes_are : lexemes_of placed ≡ lexemes

-- The tokens before the first bad byte, which is this one from the text's beginning.
pub record IsLexedBefore (at : ℕ) (bytes : List ℕ) (bad : ℕ) : Type 0 where
  pub placed : List Placed
  pub lexed : Lexed at bytes placed (at + bad)
  pub before : bad < length bytes

-- one token more
module _ (at : ℕ) (bytes : List ℕ) (kind : TokenKind) (gap text rest : List ℕ)
    (split : bytes ≡ gap ++ (text ++ rest)) where
  abbrev placed_more : List Placed → List Placed
  placed_more others = record { lexeme = record { kind = kind; text = text }; from = at + length gap } ∷ others

  size : length bytes ≡ length gap + (length text + length rest)
  size = omega (arith, ap length split, length-append gap (text ++ rest), length-append text rest)

  module _ (is_gap : IsGap gap) (token : IsTokenAt kind text rest) where
    whole_more : (lexemes : List Lexeme)
        → IsLexedWhole (at + (length gap + length text)) rest lexemes
        → IsLexedWhole at bytes (record { kind = kind; text = text } ∷ lexemes)
    whole_more lexemes others =
        let placed = placed_more others.placed in
        let ends : at + (length gap + length text) + length rest ≡ at + length bytes = omega (arith, size) in
        record {
          placed = placed;
          lexed = subst (λ n. Lexed at bytes placed n) ends
              (goes_on kind gap text rest split is_gap token others.lexed);
          lexemes_are = ap (λ l. record { kind = kind; text = text } ∷ l) others.lexemes_are;
        }

    before_more : (bad : ℕ)
        → IsLexedBefore (at + (length gap + length text)) rest bad
        → IsLexedBefore at bytes (length gap + (length text + bad))
    before_more bad others =
        let placed = placed_more others.placed in
        let ends : at + (length gap + length text) + bad ≡ at + (length gap + (length text + bad)) = omega arith in
        record {
          placed = placed;
          lexed = subst (λ n. Lexed at bytes placed n) ends
              (goes_on kind gap text rest split is_gap token others.lexed);
          before = omega (arith, size, others.before);
        }

    bad_more : (stop : ℕ)
        → at + (length gap + length text) ≤ stop
        → IsFirstBad rest (stop - (at + (length gap + length text)))
        → IsFirstBad bytes (stop - at)
    bad_more stop after bad =
        let place : length gap + (length text + (stop - (at + (length gap + length text)))) ≡ stop - at =
        omega (arith, after) in
        subst (IsFirstBad bytes) place (later kind gap text rest split is_gap token bad)

-- a bad byte stands within its text
bad_within : (bytes gap bad : List ℕ)
    → bytes ≡ gap ++ bad
    → IsBadByte bad
    → length gap < length bytes
bad_within bytes gap bad e is_bad = omega (arith, ap length e, length-append gap bad, ap length is_bad.bytes_are)

-- Lexemes have places.
pub with_places : {bytes : List ℕ} {lexemes : List Lexeme}
    → AreLexemes bytes lexemes
    → (at : ℕ)
    → IsLexedWhole at bytes lexemes
with_places (end gap rest e is_gap is_end) at =
    record { placed = []; lexed = ends_whole gap rest e is_gap is_end; lexemes_are = refl }
with_places (more {bytes = bytes} {lexemes = lexemes} kind gap text rest e is_gap token others) at =
    whole_more at bytes kind gap text rest e is_gap token lexemes (with_places others (at + (length gap + length text)))

-- The tokens before a first bad byte have places.
pub bad_with_places : {bytes : List ℕ} {bad : ℕ} → IsFirstBad bytes bad → (at : ℕ) → IsLexedBefore at bytes bad
bad_with_places (here {bytes = bytes} gap rest e is_gap is_bad) at =
    record { placed = []; lexed = ends_bad gap rest e is_gap is_bad; before = bad_within bytes gap rest e is_bad }
bad_with_places (later {bytes = bytes} {at = bad} kind gap text rest e is_gap token others) at =
    before_more at bytes kind gap text rest e is_gap token bad
    (bad_with_places others (at + (length gap + length text)))

-- the end is behind the beginning
pub end_after : {at stop : ℕ} {bytes : List ℕ} {placed : List Placed} → Lexed at bytes placed stop → at ≤ stop
end_after (ends_whole gap rest e is_gap is_end) = omega arith
end_after (ends_bad gap rest e is_gap is_bad) = omega arith
end_after (goes_on kind gap text rest e is_gap token others) = omega (arith, end_after others)

-- and within the text
pub end_within : {at stop : ℕ} {bytes : List ℕ} {placed : List Placed}
    → Lexed at bytes placed stop
    → stop ≤ at + length bytes
end_within (ends_whole gap rest e is_gap is_end) = omega arith
end_within (ends_bad {bytes = bytes} gap rest e is_gap is_bad) = omega (arith, bad_within bytes gap rest e is_bad)
end_within (goes_on {at = at} {bytes = bytes} kind gap text rest e is_gap token others) =
    omega (arith, end_within others, size at bytes kind gap text rest e)

-- What is lexed to the text's end are its lexemes.
pub without_places : {at stop : ℕ} {bytes : List ℕ} {placed : List Placed}
    → Lexed at bytes placed stop
    → stop ≡ at + length bytes
    → AreLexemes bytes (lexemes_of placed)
without_places (ends_whole gap rest e is_gap is_end) whole = end gap rest e is_gap is_end
without_places (ends_bad {bytes = bytes} gap rest e is_gap is_bad) whole =
    absurd (omega (arith, whole, bad_within bytes gap rest e is_bad))
without_places (goes_on {at = at} {bytes = bytes} kind gap text rest e is_gap token others) whole =
    more kind gap text rest e is_gap token
    (without_places others (omega (arith, whole, size at bytes kind gap text rest e)))

-- Where the tokens end before the text does, its first bad byte stands.
pub bad_without_places : {at stop : ℕ} {bytes : List ℕ} {placed : List Placed}
    → Lexed at bytes placed stop
    → stop < at + length bytes
    → IsFirstBad bytes (stop - at)
bad_without_places (ends_whole gap rest e is_gap is_end) before = absurd (omega (arith, before))
bad_without_places (ends_bad {at = at} {bytes = bytes} gap rest e is_gap is_bad) before =
    subst (IsFirstBad bytes) (omega arith) (here gap rest e is_gap is_bad)
bad_without_places (goes_on {at = at} {end = stop} {bytes = bytes} kind gap text rest e is_gap token others) before =
    bad_more at bytes kind gap text rest e is_gap token stop (end_after others)
    (bad_without_places others (omega (arith, before, size at bytes kind gap text rest e)))

-- at the place 0
from_zero : {bytes : List ℕ} {placed : List Placed} (stop : ℕ)
    → Lexed 0 bytes placed (0 + stop)
    → Lexed 0 bytes placed stop
from_zero {bytes} {placed} stop lexed = subst (λ n. Lexed 0 bytes placed n) (omega arith) lexed

-- The lexemes of a text are those of the tokens that are lexed up to its length.
pub lexemes_are_lexed : (bytes : List ℕ) (lexemes : List Lexeme) → AreLexemes bytes lexemes
    ↔ ((placed : List Placed) × Lexed 0 bytes placed (length bytes) × (lexemes_of placed ≡ lexemes))
lexemes_are_lexed bytes lexemes = (
  λ h. let whole = with_places h 0 in (whole.placed, from_zero (length bytes) whole.lexed, whole.lexemes_are),
  λ h. subst (AreLexemes bytes) h.2 (without_places h.1 (omega arith)),
)

-- The first bad byte of a text is the place before its length up to which it is lexed.
pub first_bad_is_lexed : (bytes : List ℕ) (bad : ℕ)
    → IsFirstBad bytes bad ↔ ((placed : List Placed) × Lexed 0 bytes placed bad × (bad < length bytes))
first_bad_is_lexed bytes bad = (
  λ h. let before = bad_with_places h 0 in (before.placed, from_zero bad before.lexed, before.before),
  λ h. subst (IsFirstBad bytes) (omega arith) (bad_without_places h.1 (omega (arith, h.2))),
)
