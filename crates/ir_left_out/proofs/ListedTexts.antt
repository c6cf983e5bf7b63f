-- Texts of the list of what is left out, by their places in its parts.
use Rattle.std.proofs.Common.{◌≡◌, ℕ, zero, suc, ◌+◌, ◌<◌, Bool, true, false, List, [], length, Option, Some, None, ◌⊎◌, get_or, ltb, not, refl, ap, ◌∙◌, arith}
use Rattle.std.specs.Prelude.{position, slice_get, cond, MatchOption}
use Rattle.std.specs.List.{position_or_len}
use Rattle.std.specs.Str.{bytes_eq}
use Rattle.std.proofs.lemmas.List.Quantifiers.{position-Some}
use Rattle.std.proofs.lemmas.List.Sums.{fails_before_first, prefix_len-le-length}
use Rattle.std.proofs.lemmas.Bool.{ltb-false}
use Rattle.std.proofs.lemmas.Option.{slice_get-get_or, slice_get_within, get_or_from_slice_get}
use Rattle.std.proofs.lemmas.Slice.Eq.{bytes_eq-Decides}
use Rattle.ir_text.specs.declared.token.TokenKind.{TokenKind}
use Rattle.ir_text.specs.declared.token.TokenKind.TheVariants.{Word, Sign, Dots}
use Rattle.ir_text.specs.PassedOn.{left_out_words}
use Rattle.ir_left_out.specs.Named.{IsLeftOutText, NumbersText, NumbersToken, first_texts}

-- whether this is the text
abbrev is_text : List ℕ → List ℕ → Bool
is_text text each = bytes_eq each text

-- The place that is found is that of the text.
listed_there : (texts : List (List ℕ)) (text : List ℕ) (place : ℕ) → position (is_text text) texts ≡ Some place
    → slice_get texts place ≡ Some text
listed_there texts text place e =
    let found = position-Some (is_text text) texts place [] e in
    slice_get-get_or texts place [] found.0 ∙ ap (λ (t : List ℕ). Some t) ((bytes_eq-Decides _ text).0 found.1)

-- ---- none of them

-- where no place is found, all of them were passed by
none_passes : (p : List ℕ → Bool) (texts : List (List ℕ)) → position p texts ≡ None → position_or_len p texts ≡ length
    texts
none_passes p texts e = decide (ltb (position_or_len p texts) (length texts)) refl
  where
    decide : (b : Bool) → ltb (position_or_len p texts) (length texts) ≡ b → position_or_len p texts ≡ length texts
    decide false fails =
        let least = prefix_len-le-length (λ text. not (p text)) texts in
        let most = ltb-false (position_or_len p texts) (length texts) fails in omega arith
    decide true passes =
        let found : position p texts ≡ Some (position_or_len p texts) =
        ap (λ (b : Bool). cond b (Some (position_or_len p texts)) None) passes in absurd cc

-- Where no place is found, the text is at none.
listed_nowhere : (texts : List (List ℕ)) (text : List ℕ) (place : ℕ) → position (is_text text) texts ≡ None
    → slice_get texts place ≡ Some text → ⊥
listed_nowhere texts text place e is =
    let all : position_or_len (is_text text) texts ≡ length texts =
    none_passes (is_text text) texts e in
    let within : place < length texts = slice_get_within texts place text is in
    let fails : bytes_eq (get_or texts place []) text ≡ false =
    fails_before_first (is_text text) texts place [] (omega arith) in
    let passes : bytes_eq (get_or texts place []) text ≡ true =
    (bytes_eq-Decides (get_or texts place []) text).1 (get_or_from_slice_get texts place text [] is) in cc

-- ---- the parts of the list

-- The place among the first texts is the number.
pub first_there : (text : List ℕ) (number : ℕ) → position (is_text text) first_texts ≡ Some number
    → IsLeftOutText text number
first_there text number e = among_first number (listed_there first_texts text number e)
  where
    among_first : (number : ℕ) → slice_get first_texts number ≡ Some text → IsLeftOutText text number
    among_first zero is = (is, λ e. absurd (omega arith), λ e. absurd (omega arith), λ e. absurd (omega arith))
    among_first (suc zero) is = (is, λ e. absurd (omega arith), λ e. absurd (omega arith), λ e. absurd (omega arith))
    among_first (suc (suc zero)) is =
        (is, λ e. absurd (omega arith), λ e. absurd (omega arith), λ e. absurd (omega arith))
    among_first (suc (suc (suc zero))) is =
        (is, λ e. absurd (omega arith), λ e. absurd (omega arith), λ e. absurd (omega arith))
    among_first (suc (suc (suc (suc n)))) is = absurd cc

-- The number of a word of the list is 7 more than its place among the words.
pub word_there : (text : List ℕ) (place number : ℕ) → position (is_text text) left_out_words ≡ Some place
    → number ≡ 7 + place → IsLeftOutText text number
word_there text place number e is =
    let same : number ≡ suc (suc (suc (suc (suc (suc (suc place)))))) = omega arith in
    rw same (
      listed_there left_out_words text place e,
      λ e. absurd (omega arith),
      λ e. absurd (omega arith),
      λ e. absurd (omega arith),
    )

-- A text that is neither among the first texts nor among the words has no number.
pub nowhere : (text : List ℕ) → position (is_text text) first_texts ≡ None
    → position (is_text text) left_out_words ≡ None → (number : ℕ) → IsLeftOutText text number → ⊥
nowhere text first words zero l = listed_nowhere first_texts text 0 first l.0
nowhere text first words (suc zero) l = listed_nowhere first_texts text 1 first l.0
nowhere text first words (suc (suc zero)) l = listed_nowhere first_texts text 2 first l.0
nowhere text first words (suc (suc (suc zero))) l = listed_nowhere first_texts text 3 first l.0
nowhere text first words (suc (suc (suc (suc zero)))) l = l.1 refl
nowhere text first words (suc (suc (suc (suc (suc zero))))) l = l.2 refl
nowhere text first words (suc (suc (suc (suc (suc (suc zero)))))) l = l.3 refl
nowhere text first words (suc (suc (suc (suc (suc (suc (suc place))))))) l =
    listed_nowhere left_out_words text place words l.0

-- ---- what was found

-- What is found among the words, where the text isn't among the first ones, is its number.
pub of_words : (text : List ℕ) (found : Option ℕ) → position (is_text text) first_texts ≡ None
    → MatchOption found (position (is_text text) left_out_words ≡ None)
    (λ number. (place : ℕ) × (position (is_text text) left_out_words ≡ Some place) × (number ≡ 7 + place))
    → NumbersText text found
of_words text None first e = nowhere text first e
of_words text (Some number) first (place, e, is) = word_there text place number e is

-- the kinds of what is listed
abbrev pub IsListedKind : TokenKind → Type 0
IsListedKind kind = (kind ≡ Word) ⊎ ((b : ℕ) × (kind ≡ Sign b)) ⊎ (kind ≡ Dots)

-- A token of a listed kind has the number of its text.
pub of_text : (kind : TokenKind) (text : List ℕ) (found : Option ℕ) → IsListedKind kind → NumbersText text found
    → NumbersToken (record { kind = kind; text = text }) found
of_text kind text None is none = λ number l. none number (l.1, l.2, l.3, l.4)
of_text kind text (Some number) is l = (is, l.0, l.1, l.2, l.3)
