-- Attachments are read.
use Rattle.std.proofs.Common.{◌≡◌, ℕ, suc, Bool, true, false, ◌||◌, ◌&&◌, not, ◌==◌, List, [], ◌∷◌, ◌++◌, length, Err, inl, inr, refl, sym, ap, subst, IsTrue, codes}
use Rattle.std.proofs.lemmas.Bool.{and_parts, eqb-true}
use Rattle.ir_text.specs.declared.token.TokenKind.{TokenKind}
use Rattle.ir_text.specs.declared.token.TokenKind.TheVariants.{Metadata}
use Rattle.ir_text.specs.Bytes.{begins_word, goes_on_word, is_letter, is_digit}
use Rattle.ir_lex.proofs.BytesApart.{begins_word-no_minus}
use Rattle.ir_lex.proofs.LongestName.{word-no_number}
use Rattle.std.specs.List.{list_all}
use Rattle.std.specs.Str.{bytes_eq}
use Rattle.ir_text.specs.Names.{dots, is_word, is_number, is_signed_number}
use Rattle.ir_text.specs.Tokens.{Lexeme}
use Rattle.ir_text.specs.Listed.{InSequence}
use Rattle.ir_text.specs.Language.{Language, ◌·◌, ◌or◌, one, comma, Many}
use Rattle.ir_text.specs.Language.Many.{none, more}
use Rattle.ir_text.specs.PassedOn.{IsMetadataWord, IsMetadataNumber, IsBang, in_parentheses, in_braces, metadata_node, attachments, metadata_pairs}
use Rattle.ir_parts.specs.Reading.{token_at, begins, is_punctuation}
use Rattle.ir_parts.specs.WordsReading.{parentheses_at}
use Rattle.ir_parts.specs.MetadataReading.{is_metadata_kind, is_metadata, is_word_text, is_number_text, is_bang_text, is_metadata_word, is_metadata_number, is_bang, braces_at, braced_node_at, named_node_at, node_at, attached_at, bare_attachment_at, attachment_at, attachments_at, pair_at, pairs_at}
use Rattle.ir_parts.proofs.Readers.{IsReader, Anything, of_language, mapped, chosen}
use Rattle.ir_parts.proofs.Repeated.{Behind, repeated}
use Rattle.ir_parts.proofs.Combined.{token_reads, behind_token, not_at_first}
use Rattle.ir_parts.proofs.SingleTokens.{sign_reads, is_sign_itself}
use Rattle.ir_parts.proofs.ClosedReader.{round_closed, curly_closed}

-- ---- single tokens

metadata_kind : (kind : TokenKind) → is_metadata_kind kind ≡ true → kind ≡ Metadata
metadata_kind Metadata e = refl
metadata_kind _ e = absurd cc

word_text : (text : List ℕ) → is_word_text text ≡ true → (name : List ℕ) × (text ≡ 33 ∷ name) × IsTrue (is_word name)
unfolding is_word_text
word_text [] e = absurd cc
word_text (b ∷ bs) e =
    let parts = and_parts (b == 33) (is_word bs) e in
    (bs, ap (λ (b : ℕ). b ∷ bs) (eqb-true b 33 parts.0), parts.1)

text_word : (name : List ℕ) → IsTrue (is_word name) → is_word_text (33 ∷ name) ≡ true
unfolding is_word_text
text_word name e = e

number_text : (text : List ℕ) → is_number_text text ≡ true → (number : List ℕ) × (text ≡ 33 ∷ number) × IsTrue
    (is_signed_number number)
unfolding is_number_text
number_text [] e = absurd cc
number_text (b ∷ bs) e =
    let parts = and_parts (b == 33) (is_signed_number bs) e in
    (bs, ap (λ (b : ℕ). b ∷ bs) (eqb-true b 33 parts.0), parts.1)

text_number : (number : List ℕ) → IsTrue (is_signed_number number) → is_number_text (33 ∷ number) ≡ true
unfolding is_number_text
text_number number e = e

bang_text : (text : List ℕ) → is_bang_text text ≡ true → text ≡ 33 ∷ []
unfolding is_bang_text
bang_text [] e = absurd cc
bang_text (b ∷ []) e = ap (λ (b : ℕ). b ∷ []) (eqb-true b 33 e)
bang_text (b ∷ c ∷ bs) e = absurd cc

pub word_there : (t : Lexeme) → is_metadata_word t ≡ true → IsMetadataWord t
word_there t e =
    let parts = and_parts (is_metadata t) (is_word_text t.text) e in
    let name = word_text t.text parts.1 in
    (metadata_kind t.kind parts.0, name.0, name.1, name.2)

pub word_back : (t : Lexeme) → IsMetadataWord t → is_metadata_word t ≡ true
word_back t is = rw (is.0, is.2) (text_word is.1 is.3)

number_there : (t : Lexeme) → is_metadata_number t ≡ true → IsMetadataNumber t
number_there t e =
    let parts = and_parts (is_metadata t) (is_number_text t.text) e in
    let number = number_text t.text parts.1 in
    (metadata_kind t.kind parts.0, number.0, number.1, number.2)

number_back : (t : Lexeme) → IsMetadataNumber t → is_metadata_number t ≡ true
number_back t is = rw (is.0, is.2) (text_number is.1 is.3)

bang_there : (t : Lexeme) → is_bang t ≡ true → IsBang t
bang_there t e =
    let parts = and_parts (is_metadata t) (is_bang_text t.text) e in
    (metadata_kind t.kind parts.0, bang_text t.text parts.1)

bang_back : (t : Lexeme) → IsBang t → is_bang t ≡ true
unfolding is_bang_text
bang_back t is = rw (is.0, is.1) refl

-- ---- readers

-- a token of a kind
pub single : (test : Lexeme → Bool) (Is : Lexeme → Type 0) → ((t : Lexeme) → test t ≡ true → Is t) → ((t : Lexeme)
    → Is t → test t ≡ true)
    → (t : Lexeme) → Is t → IsReader (token_at test) (λ (x : Unit {0}). one Is) Anything
single test Is there back t is = of_language (λ (x : Unit {0}). one Is)
    (λ x ts l. (l.0, l.1, there l.0 l.2)) (λ x ts l. (l.0, l.1, back l.0 l.2)) (token_reads test t (back t is))

a_word : IsMetadataWord (record { kind = Metadata; text = codes "!a" })
unfolding is_word begins_word is_letter
a_word = (refl, codes "a", refl, refl)

pub a_number : IsMetadataNumber (record { kind = Metadata; text = codes "!0" })
unfolding is_signed_number is_number is_digit
a_number = (refl, codes "0", refl, refl)

pub metadata_word_reads : IsReader (token_at is_metadata_word) (λ (x : Unit {0}). one IsMetadataWord) Anything
metadata_word_reads = single is_metadata_word IsMetadataWord word_there word_back (record {
  kind = Metadata;
  text =
      codes "!a";
}) a_word

number_reads : IsReader (token_at is_metadata_number) (λ (x : Unit {0}). one IsMetadataNumber) Anything
number_reads = single is_metadata_number IsMetadataNumber number_there number_back (record {
  kind = Metadata;
  text =
      codes "!0";
}) a_number

bang_reads : IsReader (token_at is_bang) (λ (x : Unit {0}). one IsBang) Anything
bang_reads = single is_bang IsBang bang_there bang_back (record { kind = Metadata; text = codes "!" }) (refl, refl)

pub parentheses_read : IsReader parentheses_at (λ (x : Unit {0}). in_parentheses) Anything
unfolding parentheses_at
parentheses_read = behind_token (sign_reads 40) round_closed

pub braces_read : IsReader braces_at (λ (x : Unit {0}). in_braces) Anything
unfolding braces_at
braces_read = behind_token (sign_reads 123) curly_closed

braced_node : IsReader braced_node_at (λ (x : Unit {0}). one IsBang · in_braces) Anything
unfolding braced_node_at
braced_node = behind_token bang_reads braces_read

named_node : IsReader named_node_at (λ (x : Unit {0}). one IsMetadataWord · in_parentheses) Anything
unfolding named_node_at
named_node = behind_token metadata_word_reads parentheses_read

-- ---- nodes and attachments

no_bang : (name : List ℕ) → IsTrue (is_word name) → is_bang_text (33 ∷ name) ≡ false
unfolding is_word is_bang_text
no_bang [] e = absurd cc
no_bang (b ∷ bs) e = refl

word_is_no_bang : (t : Lexeme) → IsMetadataWord t → is_bang t ≡ false
word_is_no_bang t is = rw (is.0, is.2) (no_bang is.1 is.3)

-- what begins with a token that passes, or fails, a test
pub starts_with_one : (test : Lexeme → Bool) (Is : Lexeme → Type 0) (B : Language)
    → ((t : Lexeme) → Is t → test t ≡ true)
    → (ts : List Lexeme) → (one Is · B) ts → begins test ts ≡ true
starts_with_one test Is B back ts l = rw (l.2, l.3.1) (back l.3.0 l.3.2)

pub starts_otherwise : (test : Lexeme → Bool) (Is : Lexeme → Type 0) (B : Language)
    → ((t : Lexeme) → Is t → test t ≡ false)
    → (taken rest : List Lexeme) → (one Is · B) taken → begins test (taken ++ rest) ≡ false
starts_otherwise test Is B other taken rest l = rw (l.2, l.3.1) (other l.3.0 l.3.2)

braced_begun : (t : Lexeme) (ts : List Lexeme) → is_bang t ≡ true → braced_node_at (t ∷ ts) ≡ Err (suc (length ts)) → ⊥
unfolding braced_node_at
braced_begun t ts passed e = not_at_first is_bang braces_read t ts passed e

pub node_reads : IsReader node_at (λ (x : Unit {0}). metadata_node) Anything
unfolding node_at
node_reads = chosen is_bang braced_node named_node
    (λ x ts l. starts_with_one is_bang IsBang in_braces bang_back ts l)
    (λ x taken rest l stops. starts_otherwise is_bang IsMetadataWord in_parentheses word_is_no_bang taken rest l)
    braced_begun

neither : (c d e : Bool) → c ≡ false → d ≡ false → (c || (d && e)) ≡ false
neither true d e p q = absurd cc
neither false true e p q = absurd cc
neither false false e p q = refl

-- A word is no number.
pub word_no_number : (name : List ℕ) → IsTrue (is_word name) → is_signed_number name ≡ false
unfolding is_word is_signed_number
word_no_number [] e = refl
word_no_number (b ∷ bs) e =
    let all = and_parts (begins_word b && list_all goes_on_word bs) (not (bytes_eq (b ∷ bs) dots)) e in
    let parts = and_parts (begins_word b) (list_all goes_on_word bs) all.0 in
    neither (is_number (b ∷ bs)) (b == 45) (is_number bs) (no_number (is_number (b ∷ bs)) refl) (begins_word-no_minus
    b parts.0)
  where
    no_number : (c : Bool) → is_number (b ∷ bs) ≡ c → c ≡ false
    no_number true is = absurd (word-no_number (b ∷ bs) e is)
    no_number false is = refl

word_is_no_number : (t : Lexeme) → IsMetadataWord t → is_metadata_number t ≡ false
unfolding is_number_text
word_is_no_number t is = rw (is.0, is.2) (word_no_number is.1 is.3)

bang_is_no_number : (t : Lexeme) → IsBang t → is_metadata_number t ≡ false
unfolding is_number_text is_signed_number
bang_is_no_number t is = rw (is.0, is.1) refl

node_no_number : (taken rest : List Lexeme) → metadata_node taken → begins is_metadata_number (taken ++ rest) ≡ false
node_no_number taken rest (inl l) = starts_otherwise is_metadata_number IsBang in_braces bang_is_no_number taken rest l
node_no_number taken rest (inr l) = starts_otherwise is_metadata_number IsMetadataWord in_parentheses
    word_is_no_number taken rest l

number_begun : (t : Lexeme) (ts : List Lexeme) → is_metadata_number t ≡ true
    → token_at is_metadata_number (t ∷ ts) ≡ Err (suc (length ts)) → ⊥
unfolding token_at
number_begun t ts passed e = absurd (let e = rw passed at e in cc)

attached_reads : IsReader attached_at (λ (x : Unit {0}). one IsMetadataNumber or metadata_node) Anything
unfolding attached_at
attached_reads = chosen is_metadata_number number_reads node_reads
    (λ x ts l. rw l.1 (number_back l.0 l.2))
    (λ x taken rest l stops. node_no_number taken rest l)
    number_begun

abbrev pub attachment : Language
attachment = comma · one IsMetadataWord · (one IsMetadataNumber or metadata_node)

-- without its comma
pub bare_attachment_reads : IsReader bare_attachment_at
    (λ (x : Unit {0}). one IsMetadataWord · (one IsMetadataNumber or metadata_node)) Anything
unfolding bare_attachment_at
bare_attachment_reads = behind_token metadata_word_reads attached_reads

-- The kind of an attachment is taken.
pub attachment_begun : (t : Lexeme) (ts : List Lexeme) → is_metadata_word t ≡ true
    → bare_attachment_at (t ∷ ts) ≡ Err (suc (length ts)) → ⊥
unfolding bare_attachment_at
attachment_begun t ts passed e = not_at_first is_metadata_word attached_reads t ts passed e

attachment_reads : IsReader attachment_at (λ (x : Unit {0}). attachment) Anything
unfolding attachment_at
attachment_reads = behind_token (sign_reads 44) (behind_token metadata_word_reads attached_reads)

comma_begun : (t : Lexeme) (ts : List Lexeme) → is_punctuation 44 t ≡ true
    → attachment_at (t ∷ ts) ≡ Err (suc (length ts)) → ⊥
unfolding attachment_at
comma_begun t ts passed e = not_at_first (is_punctuation 44) (behind_token metadata_word_reads attached_reads) t
    ts passed e

many_of : (A : Language) (xs : List (Unit {0})) (ts : List Lexeme) → InSequence (λ x. A) xs ts → Many A ts
many_of A [] ts l = subst (λ (ts : List Lexeme). Many A ts) (sym l) none
many_of A (x ∷ xs) ts l = more l.0 l.1 l.2 l.3 (many_of A xs l.1 l.4)

of_many : (A : Language) (ts : List Lexeme) → Many A ts → (xs : List (Unit {0})) × InSequence (λ x. A) xs ts
of_many A ts none = ([], refl)
of_many A ts (more us vs parts first others) =
    let rest = of_many A vs others in (tt ∷ rest.0, (us, vs, parts, first, rest.1))

-- No comma stands behind.
abbrev pub NoComma : Unit {0} → Lexeme → Type 0
NoComma x t = is_punctuation 44 t ≡ false

pub attachments_read : IsReader attachments_at (λ (x : Unit {0}). attachments) NoComma
unfolding attachments_at
attachments_read = of_language (λ (x : Unit {0}). attachments)
    (λ x ts l. many_of attachment l.0 ts l.2)
    (λ x ts l. let many = of_many attachment ts l in (many.0, refl, many.1))
    (mapped (λ xs. tt) NoComma no_comma behind_any
    (repeated (is_punctuation 44) (λ t. Unit {0}) attachment_reads (λ x ts l. rw (l.2, l.3) (is_sign_itself 44)) (λ t
    e. tt) comma_begun))
  where
    no_comma : (xs : List (Unit {0})) (t : Lexeme) → Behind (is_punctuation 44) (λ t. Unit {0}) xs t → NoComma tt t
    no_comma [] t h = h
    no_comma (x ∷ xs) t h = h.0

    behind_any : (xs : List (Unit {0})) (t : Lexeme) → NoComma tt t → Behind (is_punctuation 44) (λ t. Unit {0}) xs t
    behind_any [] t h = h
    behind_any (x ∷ xs) t h = (h, tt)

-- ---- pairs

pub kind_reads : IsReader (token_at is_metadata) (λ (x : Unit {0}). one (λ t. t.kind ≡ Metadata)) Anything
kind_reads = single is_metadata (λ t. t.kind ≡ Metadata) (λ t e. metadata_kind t.kind e) (λ t e. ap is_metadata_kind e)
    (record { kind = Metadata; text = codes "!" }) refl

abbrev pub pair : Language
pair = one (λ t. t.kind ≡ Metadata) · one (λ t. t.kind ≡ Metadata)

pair_reads : IsReader pair_at (λ (x : Unit {0}). pair) Anything
unfolding pair_at
pair_reads = behind_token kind_reads kind_reads

pair_begun : (t : Lexeme) (ts : List Lexeme) → is_metadata t ≡ true → pair_at (t ∷ ts) ≡ Err (suc (length ts)) → ⊥
unfolding pair_at
pair_begun t ts passed e = not_at_first is_metadata kind_reads t ts passed e

-- No metadata stands behind.
abbrev pub NoMetadata : Unit {0} → Lexeme → Type 0
NoMetadata x t = is_metadata t ≡ false

pub pairs_read : IsReader pairs_at (λ (x : Unit {0}). metadata_pairs) NoMetadata
unfolding pairs_at
pairs_read = of_language (λ (x : Unit {0}). metadata_pairs)
    (λ x ts l. many_of pair l.0 ts l.2)
    (λ x ts l. let many = of_many pair ts l in (many.0, refl, many.1))
    (mapped (λ xs. tt) NoMetadata none_behind behind_any
    (repeated is_metadata (λ t. Unit {0}) pair_reads (λ x ts l. rw (l.2, l.3.1) (ap is_metadata_kind l.3.2)) (λ t e.
    tt) pair_begun))
  where
    none_behind : (xs : List (Unit {0})) (t : Lexeme) → Behind is_metadata (λ t. Unit {0}) xs t → NoMetadata tt t
    none_behind [] t h = h
    none_behind (x ∷ xs) t h = h.0

    behind_any : (xs : List (Unit {0})) (t : Lexeme) → NoMetadata tt t → Behind is_metadata (λ t. Unit {0}) xs t
    behind_any [] t h = h
    behind_any (x ∷ xs) t h = (h, tt)
