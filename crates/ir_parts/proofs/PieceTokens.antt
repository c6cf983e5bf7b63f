-- Which tokens begin a piece of a run: passed-on words, strings and groups of attributes.
use Rattle.std.proofs.Common.{◌≡◌, ℕ, Bool, true, false, ◌&&◌, ◌==◌, not, List, [], ◌∷◌, Option, Some, None, refl, ap, IsTrue, codes}
use Rattle.std.specs.Str.{bytes_eq}
use Rattle.std.proofs.lemmas.Bool.{and_parts, eqb-true}
use Rattle.std.proofs.lemmas.Slice.Eq.{bytes_eq-Decides}
use Rattle.ir_text.specs.declared.token.TokenKind.{TokenKind}
use Rattle.ir_text.specs.declared.token.TokenKind.TheVariants.{Word, Quoted, Group}
use Rattle.ir_text.specs.Names.{is_signed_number}
use Rattle.ir_text.specs.Said.{inner_text, is_string_text}
use Rattle.ir_text.specs.Written.{IsStringToken, unescaped}
use Rattle.ir_text.specs.Tokens.{Lexeme}
use Rattle.ir_text.specs.Types.{IsIntText}
use Rattle.ir_text.specs.PassedOn.{opening_words, left_out_words, is_among, is_quoted, IsPassedWord, IsAttributeGroup}
use Rattle.ir_parts.specs.Reading.{is_word_kind}
use Rattle.ir_parts.specs.TypeReading.{int_width_of}
use Rattle.ir_parts.specs.WordsReading.{is_none, is_passed_text, is_passed, is_string_token, is_group_text, is_group_kind, is_group}
use Rattle.ir_parts.proofs.SingleTokens.{word_kind}
use Rattle.ir_parts.proofs.TypeReaders.{int_text, int_text_width}
use Rattle.ir_parts.proofs.StringTexts.{is_quoted_by, quoted_is_string}

-- ---- words

not_true : (b : Bool) → not b ≡ true → b ≡ false
not_true true e = absurd cc
not_true false e = refl

differs : (text letters : List ℕ) → not (bytes_eq text letters) ≡ true → text ≡ letters → ⊥
differs text letters e same =
    let equal : bytes_eq text letters ≡ true = (bytes_eq-Decides text letters).1 same in
    let no : bytes_eq text letters ≡ false = not_true (bytes_eq text letters) e in
    cc

not_equal : (text letters : List ℕ) → (text ≡ letters → ⊥) → not (bytes_eq text letters) ≡ true
not_equal text letters other = decide (bytes_eq text letters) refl
  where
    decide : (b : Bool) → bytes_eq text letters ≡ b → not b ≡ true
    decide true e = absurd (other ((bytes_eq-Decides text letters).0 e))
    decide false e = refl

no_width : (o : Option ℕ) → is_none o ≡ true → (width : ℕ) → o ≡ Some width → ⊥
no_width None e width is = cc
no_width (Some n) e width is = cc

-- what is no type of integers has no width
is_no_integer : (text : List ℕ) → ((width : ℕ) → IsIntText width text → ⊥) → is_none (int_width_of text) ≡ true
is_no_integer text none = decide (int_width_of text) refl
  where
    decide : (o : Option ℕ) → int_width_of text ≡ o → is_none o ≡ true
    decide None e = refl
    decide (Some width) e = absurd (none width (int_text width text e))

-- The test of passed-on words is exactly their definition.
pub passed_text_there : (text : List ℕ) → is_passed_text text ≡ true → IsPassedWord text
unfolding is_passed_text
passed_text_there text e =
    let a = and_parts (not (is_among opening_words text)) (not (is_among left_out_words text)
    && (not (bytes_eq text (codes "ptr")) && (not (bytes_eq text (codes "void")) && is_none (int_width_of text)))) e in
    let b = and_parts (not (is_among left_out_words text)) (not (bytes_eq text (codes "ptr"))
    && (not (bytes_eq text (codes "void")) && is_none (int_width_of text))) a.1 in
    let c = and_parts (not (bytes_eq text (codes "ptr"))) (not (bytes_eq text (codes "void")) && is_none (int_width_of
    text)) b.1 in
    let d = and_parts (not (bytes_eq text (codes "void"))) (is_none (int_width_of text)) c.1 in
    record {
      no_opening = not_true (is_among opening_words text) a.0;
      not_left_out = not_true (is_among left_out_words text) b.0;
      no_pointer = differs text (codes "ptr") c.0;
      no_void = differs text (codes "void") d.0;
      no_integer = λ width is. no_width (int_width_of text) d.1 width (int_text_width width text is);
    }

pub passed_text_back : (text : List ℕ) → IsPassedWord text → is_passed_text text ≡ true
unfolding is_passed_text
passed_text_back text is = rw (
  is.no_opening,
  is.not_left_out,
  not_equal text (codes "ptr") is.no_pointer,
  not_equal text (codes "void") is.no_void,
  is_no_integer text is.no_integer,
) refl

-- a passed-on word as a token
abbrev pub IsPassed : Lexeme → Type 0
IsPassed t = (t.kind ≡ Word) × IsPassedWord t.text

pub passed_there : (t : Lexeme) → is_passed t ≡ true → IsPassed t
passed_there t e =
    let parts = and_parts (is_word_kind t.kind) (is_passed_text t.text) e in
    (word_kind t.kind parts.0, passed_text_there t.text parts.1)

pub passed_back : (t : Lexeme) → IsPassed t → is_passed t ≡ true
passed_back t is = rw is.0 (passed_text_back t.text is.1)

-- ---- strings

pub quoted_kind : (kind : TokenKind) → is_quoted kind ≡ true → kind ≡ Quoted
quoted_kind Quoted e = refl
quoted_kind _ e = absurd cc

-- The test of strings is exactly their definition.
pub string_there : (t : Lexeme) → is_string_token t ≡ true → IsStringToken t
string_there t e =
    let parts = and_parts (is_quoted t.kind) (is_string_text t.text) e in
    (quoted_kind t.kind parts.0, unescaped (inner_text t.text), is_quoted_by t.text parts.1)

pub string_back : (t : Lexeme) → IsStringToken t → is_string_token t ≡ true
string_back t is = rw is.0 (quoted_is_string t.text is.1 is.2)

-- ---- groups

group_kind : (kind : TokenKind) → is_group_kind kind ≡ true → kind ≡ Group
group_kind Group e = refl
group_kind _ e = absurd cc

group_text : (text : List ℕ) → is_group_text text ≡ true → (number : List ℕ) × (text ≡ 35 ∷ number) × IsTrue
    (is_signed_number number)
unfolding is_group_text
group_text [] e = absurd cc
group_text (b ∷ bs) e =
    let parts = and_parts (b == 35) (is_signed_number bs) e in
    (bs, ap (λ (b : ℕ). b ∷ bs) (eqb-true b 35 parts.0), parts.1)

text_group : (number : List ℕ) → IsTrue (is_signed_number number) → is_group_text (35 ∷ number) ≡ true
unfolding is_group_text
text_group number e = e

-- The test of groups is exactly their definition.
pub group_there : (t : Lexeme) → is_group t ≡ true → IsAttributeGroup t
group_there t e =
    let parts = and_parts (is_group_kind t.kind) (is_group_text t.text) e in
    let number = group_text t.text parts.1 in
    (group_kind t.kind parts.0, number.0, number.1, number.2)

pub group_back : (t : Lexeme) → IsAttributeGroup t → is_group t ≡ true
group_back t is = rw (is.0, is.2) (text_group is.1 is.3)
