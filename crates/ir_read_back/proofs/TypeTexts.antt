-- Types as they are printed.
use Rattle.std.proofs.Common.{◌≡◌, ◌≢◌, ℕ, ◌^◌, ◌<◌, true, false, bytes_eq, List, [], ◌∷◌, length, pos, arith, codes, refl, sym, ap, subst, IsTrue}
use Rattle.std.specs.Fmt.{decimal}
use Rattle.std.specs.List.{list_all}
use Rattle.std.proofs.lemmas.Int.{ints}
use Rattle.std.proofs.lemmas.Bool.{and_parts, and_from, or_left, or_right}
use Rattle.ir_model.specs.declared.types.IrType.{IrType}
use Rattle.ir_model.specs.declared.types.IrType.TheVariants.{Void, Int, Ptr, Array}
use Rattle.ir_text.specs.declared.token.TokenKind.TheVariants.{Word, Numeral}
use Rattle.ir_text.specs.Bytes.{is_letter, is_digit, begins_word, goes_on_word}
use Rattle.ir_text.specs.Names.{dots, is_word}
use Rattle.ir_text.specs.Tokens.{Lexeme, FitsSigned128}
use Rattle.ir_text.specs.Language.{one}
use Rattle.ir_text.specs.Types.{IsNumeral, IsIntText, IsIntType, SpellsElements, SpellsType}
use Rattle.ir_text.specs.Mentions.{silent}
use Rattle.ir_grammar.specs.Operations.{the_type}
use Rattle.ir_grammar.specs.Printing.{elements_text, type_text}
use Rattle.ir_lex.proofs.Plain.{Stops, Word-token, Numeral-token}
use Rattle.ir_lex.proofs.LongestWord.{word-from}
use Rattle.ir_read_back.proofs.Words.{x_is_word, void_is_word, ptr_is_word, opening_bracket_is_sign, closing_bracket_is_sign}
use Rattle.ir_read_back.proofs.Numerals.{decimal_digits, numeral_of}
use Rattle.ir_read_back.proofs.Writes.{Writes, Rewrites, token_writes, silently, word_ends, word_then, sign_then, sign_ends, space_then, stop_then}

digit_goes_on : (ds : List ℕ) → list_all is_digit ds ≡ true → list_all goes_on_word ds ≡ true
unfolding goes_on_word
digit_goes_on [] all = refl
digit_goes_on (d ∷ ds) all =
    let parts = and_parts _ _ all in
    and_from _ _ (or_left _ _ (or_right _ _ parts.0)) (digit_goes_on ds parts.1)

i_begins : begins_word 105 ≡ true
unfolding begins_word is_letter
i_begins = refl

i_is_no_dot : (ds : List ℕ) → bytes_eq (105 ∷ ds) dots ≡ false
i_is_no_dot ds = refl

int_word : (ds : List ℕ) → list_all is_digit ds ≡ true → IsTrue (is_word (105 ∷ ds))
int_word ds all =
    word-from 105 ds (record { begins = i_begins; goes_on = digit_goes_on ds all; no_dots = i_is_no_dot ds })

some_digits : (ds : List ℕ) → 0 < length ds → ds ≢ []
some_digits ds some e = omega (arith, some, ap length e)

-- the type `iN`
int_text : (width : ℕ) → width < 2 ^ 32 → IsIntText width (105 ∷ decimal width)
int_text width small =
    let are = decimal_digits width (omega arith) in
    (decimal width, refl, some_digits (decimal width) are.some, are.digits, are.value, small)

int_writes : (width : ℕ) → width < 2 ^ 32
    → Writes Stops (silent (one (IsIntType width))) [] (105 ∷ decimal width)
int_writes width small =
    let are = decimal_digits width (omega arith) in
    token_writes Word (105 ∷ decimal width) (refl, (_, refl, (refl, int_text width small)))
    (λ next stops. Word-token (105 ∷ decimal width) next (int_word (decimal width) are.digits) stops)

int_rewrites : (width : ℕ)
    → Rewrites Stops (silent (one (IsIntType width))) (silent (one (IsIntType width))) [] (105 ∷ decimal width)
int_rewrites width = record { writes = λ old ts spelled real. int_writes width spelled.1.2.1.5 }

-- a dimension
abbrev IsDimension : ℕ → Lexeme → Type 0
IsDimension d t = IsNumeral (pos d) t × (d < 2 ^ 64)

dimension_writes : (d : ℕ) → d < 2 ^ 64 → Writes Stops (silent (one (IsDimension d))) [] (decimal d)
dimension_writes d small =
    let fits : FitsSigned128 (pos d) = (omega (arith, ints), omega (arith, ints)) in
    let is = numeral_of (pos d) fits in
    token_writes Numeral (decimal d) (refl, (_, refl, ((refl, is.value), small)))
    (λ next stops. Numeral-token (decimal d) next is.number (subst FitsSigned128 (sym is.value) fits) stops)

dimension_rewrites : (d : ℕ)
    → Rewrites Stops (silent (one (IsDimension d))) (silent (one (IsDimension d))) [] (decimal d)
dimension_rewrites d = record { writes = λ old ts spelled real. dimension_writes d spelled.1.2.1 }

elements_rewrite : (dims : List ℕ) (width : ℕ)
    → Rewrites Stops (silent (SpellsElements dims width)) (silent (SpellsElements dims width)) []
    (elements_text dims width)
elements_rewrite [] width = int_rewrites width
elements_rewrite (d ∷ dims) width =
    silently (sign_then 91 opening_bracket_is_sign
    (silently (space_then (dimension_rewrites d)
    (silently (word_then (codes "x") x_is_word
    (silently (stop_then refl (elements_rewrite dims width) (sign_ends 93 closing_bracket_is_sign))))))))

kind_rewrites : (kind : IrType)
    → Rewrites Stops (silent (SpellsType kind)) (silent (SpellsType kind)) [] (type_text kind)
unfolding type_text
kind_rewrites Void = word_ends (codes "void") void_is_word
kind_rewrites (Int width) = int_rewrites width
kind_rewrites Ptr = word_ends (codes "ptr") ptr_is_word
kind_rewrites (Array [] width) = record { writes = λ old ts spelled real. absurd spelled.1 }
kind_rewrites (Array (d ∷ dims) width) = elements_rewrite (d ∷ dims) width

-- A type is printed as itself.
pub type_rewrites : (Is : IrType → Type 0) (kind : IrType)
    → Rewrites Stops (the_type Is kind) (the_type Is kind) [] (type_text kind)
type_rewrites Is kind = record {
  writes = λ old ts spelled real.
      let all = (kind_rewrites kind).writes old ts (spelled.0, spelled.1.1) real in
      record { lexemes = all.lexemes; spelled = (refl, (spelled.1.0, all.spelled.1)); lexed = all.lexed };
}
