-- Words, signs and single tokens are read.
use Rattle.std.proofs.Common.{◌≡◌, ℕ, Bool, true, false, ◌&&◌, ◌==◌, List, [], ◌∷◌, refl, ap}
use Rattle.std.specs.Str.{bytes_eq}
use Rattle.std.proofs.lemmas.Bool.{and_parts, eqb-true, eq-eqb}
use Rattle.std.proofs.lemmas.Slice.Eq.{bytes_eq-Decides}
use Rattle.ir_text.specs.declared.token.TokenKind.{TokenKind}
use Rattle.ir_text.specs.declared.token.TokenKind.TheVariants.{Word, Sign}
use Rattle.ir_text.specs.Tokens.{Lexeme}
use Rattle.ir_text.specs.Listed.{word, sign}
use Rattle.ir_text.specs.Language.{keyword, punctuation}
use Rattle.ir_text.specs.PassedOn.{is_sign_kind}
use Rattle.ir_parts.specs.Reading.{is_word_kind, is_keyword, is_punctuation, keyword_at, punctuation_at}
use Rattle.ir_parts.proofs.Readers.{IsReader, Anything}
use Rattle.ir_parts.proofs.Combined.{known_reads}

pub both_true : (a b : Bool) → a ≡ true → b ≡ true → (a && b) ≡ true
both_true true b first second = second
both_true false b first second = absurd cc

pub word_kind : (kind : TokenKind) → is_word_kind kind ≡ true → kind ≡ Word
word_kind Word e = refl
word_kind _ e = absurd cc

pub sign_kind : (b : ℕ) (kind : TokenKind) → is_sign_kind b kind ≡ true → kind ≡ Sign b
sign_kind b (Sign c) e = ap (λ (n : ℕ). Sign n) (eqb-true c b e)
sign_kind b _ e = absurd cc

-- a token by its parts
pub same_token : (kind other : TokenKind) (text letters : List ℕ) → kind ≡ other → text ≡ letters
    → ◌≡◌ {A = Lexeme} (record { kind = kind; text = text }) (record { kind = other; text = letters })
same_token kind other text letters same so = rw (same, so) refl

pub is_itself : (text : List ℕ) → is_keyword text (word text) ≡ true
is_itself text = (bytes_eq-Decides text text).1 refl

pub is_word : (text : List ℕ) (t : Lexeme) → is_keyword text t ≡ true → t ≡ word text
is_word text t e =
    let parts = and_parts (is_word_kind t.kind) (bytes_eq t.text text) e in
    same_token t.kind Word t.text text (word_kind t.kind parts.0) ((bytes_eq-Decides t.text text).0 parts.1)

pub is_sign_itself : (b : ℕ) → is_punctuation b (sign b) ≡ true
is_sign_itself b = both_true (b == b) (bytes_eq (b ∷ []) (b ∷ [])) (eq-eqb b b refl) ((bytes_eq-Decides (b ∷ []) (b ∷
    [])).1 refl)

pub is_sign : (b : ℕ) (t : Lexeme) → is_punctuation b t ≡ true → t ≡ sign b
is_sign b t e =
    let parts = and_parts (is_sign_kind b t.kind) (bytes_eq t.text (b ∷ [])) e in
    same_token t.kind (Sign b) t.text (b ∷ []) (sign_kind b t.kind parts.0) ((bytes_eq-Decides t.text (b ∷ [])).0
    parts.1)

pub keyword_reads : (text : List ℕ) → IsReader (keyword_at text) (λ (x : Unit {0}). keyword text) Anything
keyword_reads text = known_reads (is_keyword text) (word text) (is_itself text) (is_word text)

pub sign_reads : (b : ℕ) → IsReader (punctuation_at b) (λ (x : Unit {0}). punctuation b) Anything
sign_reads b = known_reads (is_punctuation b) (sign b) (is_sign_itself b) (is_sign b)
