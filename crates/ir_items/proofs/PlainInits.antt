-- Initialisers that are no lists are read.
use Rattle.std.proofs.Common.{◌≡◌, ℕ, suc, Bool, true, false, List, [], ◌∷◌, ◌++◌, length, take, drop, Some, Err, inl, inr, refl, sym, ◌∙◌, codes}
use Rattle.std.specs.Str.{bytes_eq}
use Rattle.std.proofs.lemmas.Bool.{and_parts}
use Rattle.ir_model.specs.declared.op.Operand.{Operand}
use Rattle.ir_model.specs.declared.op.Operand.TheVariants as operand
use Rattle.ir_model.specs.declared.item.Init.{Init}
use Rattle.ir_model.specs.declared.item.Init.TheVariants as init
use Rattle.ir_text.specs.declared.token.TokenKind.{TokenKind}
use Rattle.ir_text.specs.declared.token.TokenKind.TheVariants.{Numeral, Quoted}
use Rattle.ir_text.specs.Tokens.{Lexeme}
use Rattle.ir_text.specs.Listed.{word}
use Rattle.ir_text.specs.Language.{Language, ◌or◌, one, keyword}
use Rattle.ir_text.specs.Written.{unescaped, IsByteString}
use Rattle.ir_text.specs.Said.{inner_text, is_string_text}
use Rattle.ir_text.specs.PassedOn.{is_quoted}
use Rattle.ir_grammar.specs.Items.{SpellsLiteral}
use Rattle.ir_parts.specs.Reading.{begins, one_at, is_keyword, is_punctuation}
use Rattle.ir_parts.proofs.Readers.{IsReader, Anything, mapped, one_reads, chosen}
use Rattle.ir_parts.proofs.Combined.{pure_reads, stands_for, not_at_first}
use Rattle.ir_parts.proofs.SingleTokens.{keyword_reads}
use Rattle.ir_parts.proofs.StringTexts.{is_quoted_by, quoted_is_string, quoted_means}
use Rattle.ir_parts.proofs.SaidNames.{sigil_first, where_true}
use Rattle.ir_items.specs.InitReading.{is_byte_text, is_byte_string, byte_string, bytes_init_at, zero_init_at, literal_init_at, word_init_at, plain_init_at}
use Rattle.ir_items.proofs.LiteralReader.{literal_reads}

-- ---- byte strings

quoted_kind : (kind : TokenKind) → is_quoted kind ≡ true → kind ≡ Quoted
quoted_kind Quoted e = refl
quoted_kind _ e = absurd cc

bytes_there : (bytes : List ℕ) (t : Lexeme) → byte_string t ≡ Some bytes → IsByteString bytes t
unfolding is_byte_text
bytes_there bytes t e =
    let found = where_true (is_byte_string t) (Some (unescaped (inner_text (drop 1 t.text)))) bytes e in
    let parts = and_parts (is_quoted t.kind) (is_byte_text t.text) found.0 in
    let texts = and_parts (bytes_eq (99 ∷ []) (take 1 t.text)) (is_string_text (drop 1 t.text)) parts.1 in
    let same : unescaped (inner_text (drop 1 t.text)) ≡ bytes = let is = found.1 in cc in
    let quoted = is_quoted_by (drop 1 t.text) texts.1 in (
      quoted_kind t.kind parts.0,
      drop 1 t.text,
      sigil_first 99 t.text texts.0,
      (quoted.0, quoted.1, quoted.2, sym same ∙ quoted.3),
    )

bytes_back : (bytes : List ℕ) (t : Lexeme) → IsByteString bytes t → byte_string t ≡ Some bytes
unfolding is_byte_text
bytes_back bytes t is = rw (is.0, is.2, quoted_is_string is.1 bytes is.3, quoted_means is.1 bytes is.3) refl

is_bytes : (bytes : List ℕ) (t : Lexeme) → IsByteString bytes t → is_byte_string t ≡ true
is_bytes bytes t is = (where_true (is_byte_string t) (Some (unescaped (inner_text (drop 1 t.text)))) bytes
    (bytes_back bytes t is)).0

no_bytes : IsByteString [] (record { kind = Quoted; text = codes "c\"\"" })
unfolding unescaped
no_bytes = (refl, codes "\"\"", refl, ([], refl, refl, refl))

byte_strings : IsReader (one_at byte_string) (λ bytes. one (IsByteString bytes)) Anything
byte_strings = one_reads byte_string IsByteString bytes_there bytes_back [] (record {
  kind = Quoted;
  text = codes "c\"\"";
}) no_bytes

-- ---- initialisers that are one token

abbrev pub SpellsBytes : Init → Language
SpellsBytes value ts = (text : List ℕ) × (value ≡ init.Bytes text) × one (IsByteString text) ts

abbrev pub SpellsZero : Init → Language
SpellsZero value ts = (value ≡ init.Zero) × keyword (codes "zeroinitializer") ts

abbrev pub SpellsLiteralInit : Init → Language
SpellsLiteralInit value ts = (op : Operand) × (value ≡ init.Literal op) × SpellsLiteral op ts

abbrev pub SpellsPlain : Init → Language
SpellsPlain value = SpellsBytes value or SpellsZero value or SpellsLiteralInit value

bytes_read : IsReader bytes_init_at SpellsBytes Anything
unfolding bytes_init_at
bytes_read = mapped init.Bytes Anything (λ x t s. tt) (λ x t s. tt) byte_strings

zero_reads : IsReader zero_init_at SpellsZero Anything
unfolding zero_init_at
zero_reads = stands_for init.Zero (keyword_reads (codes "zeroinitializer"))

literals_read : IsReader literal_init_at SpellsLiteralInit Anything
unfolding literal_init_at
literals_read = mapped init.Literal Anything (λ x t s. tt) (λ x t s. tt) literal_reads

-- ---- by their first token

-- Of what the first token of a literal isn't.
literal_begins : (test : Lexeme → Bool)
    → ((text : List ℕ) → test (record { kind = Numeral; text = text }) ≡ false)
    → test (word (codes "true")) ≡ false → test (word (codes "false")) ≡ false
    → test (word (codes "null")) ≡ false → test (word (codes "undef")) ≡ false → test (word (codes "poison")) ≡ false
    → (op : Operand) (taken rest : List Lexeme) → SpellsLiteral op taken → begins test (taken ++ rest) ≡ false
literal_begins test n a b c d e (operand.Num x) taken rest (inl l) =
    rw (l.1) (numeral l.0.kind l.0.text l.2.0)
  where
    numeral : (kind : TokenKind) (text : List ℕ) → kind ≡ Numeral → test (record { kind = kind; text = text }) ≡ false
    numeral kind text is = rw is (n text)
literal_begins test n a b c d e (operand.Num x) taken rest (inr (inl l)) = rw l.1 a
literal_begins test n a b c d e (operand.Num x) taken rest (inr (inr l)) = rw l.1 b
literal_begins test n a b c d e operand.Null taken rest l = rw l c
literal_begins test n a b c d e operand.Undef taken rest l = rw l d
literal_begins test n a b c d e operand.Poison taken rest l = rw l e
literal_begins test n a b c d e _ taken rest l = absurd l

zero_begun : (t : Lexeme) (ts : List Lexeme) → is_keyword (codes "zeroinitializer") t ≡ true
    → zero_init_at (t ∷ ts) ≡ Err (suc (length ts)) → ⊥
unfolding zero_init_at
zero_begun t ts passed e = not_at_first (is_keyword (codes "zeroinitializer")) (pure_reads init.Zero) t ts passed e

words_read : IsReader word_init_at (λ value. SpellsZero value or SpellsLiteralInit value) Anything
unfolding word_init_at
words_read = chosen (is_keyword (codes "zeroinitializer")) zero_reads literals_read
    (λ value ts l. rw l.1 refl)
    (λ value taken rest l stops. literal_begins (is_keyword (codes "zeroinitializer")) (λ text. refl) refl refl refl
    refl
    refl l.0 taken rest l.2)
    zero_begun

bytes_begun : (t : Lexeme) (ts : List Lexeme) → is_byte_string t ≡ true
    → bytes_init_at (t ∷ ts) ≡ Err (suc (length ts)) → ⊥
unfolding bytes_init_at one_at
bytes_begun t ts passed e = absurd (let e = rw passed at e in cc)

pub plain_reads : IsReader plain_init_at SpellsPlain Anything
unfolding plain_init_at
plain_reads = chosen is_byte_string bytes_read words_read
    (λ value ts l. rw l.2.1 (is_bytes l.0 l.2.0 l.2.2))
    (λ value taken rest l stops. no_bytes_first value taken rest l)
    bytes_begun
  where
    no_bytes_first : (value : Init) (taken rest : List Lexeme) → (SpellsZero value or SpellsLiteralInit value) taken
        → begins is_byte_string (taken ++ rest) ≡ false
    no_bytes_first value taken rest (inl l) = rw l.1 refl
    no_bytes_first value taken rest (inr l) =
        literal_begins is_byte_string (λ text. refl) refl refl refl refl refl l.0 taken rest l.2

-- none begins with a bracket
pub plain_no_bracket : (value : Init) (taken rest : List Lexeme) → SpellsPlain value taken
    → begins (is_punctuation 91) (taken ++ rest) ≡ false
plain_no_bracket value taken rest (inl l) = rw l.2.1 (no_sign l.2.0.kind l.2.0.text l.2.2.0)
  where
    no_sign : (kind : TokenKind) (text : List ℕ) → kind ≡ Quoted
        → is_punctuation 91 (record { kind = kind; text = text }) ≡ false
    no_sign kind text is = rw is refl
plain_no_bracket value taken rest (inr (inl l)) = rw l.1 refl
plain_no_bracket value taken rest (inr (inr l)) =
    literal_begins (is_punctuation 91) (λ text. refl) refl refl refl refl refl l.0 taken rest l.2
