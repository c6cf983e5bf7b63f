-- Lines that are passed on are read.
use Rattle.std.proofs.Common.{◌≡◌, ℕ, suc, ◌-◌, ◌≤◌, true, false, List, [], ◌∷◌, ◌++◌, length, take, Ok, Err, inl, inr, refl, sym, ap, ◌∙◌, codes, arith}
use Rattle.std.proofs.lemmas.Bool.{and_parts}
use Rattle.ir_text.specs.declared.token.TokenKind.TheVariants.{Quoted, Group}
use Rattle.ir_text.specs.Bytes.{is_digit}
use Rattle.ir_text.specs.Names.{is_number, is_signed_number}
use Rattle.ir_text.specs.Tokens.{Lexeme}
use Rattle.ir_text.specs.Listed.{word}
use Rattle.ir_text.specs.Language.{Language, ◌·◌, ◌or◌, one, keyword, punctuation}
use Rattle.ir_text.specs.Said.{is_string_text, inner_text}
use Rattle.ir_text.specs.Written.{IsStringToken, unescaped}
use Rattle.ir_text.specs.PassedOn.{is_quoted, passed_text, IsAttributeGroup, in_braces}
use Rattle.ir_lex.specs.Tokenized.{Tokenized}
use Rattle.ir_grammar.specs.Layout.{IsLayout}
use Rattle.ir_grammar.specs.Items.{passed_line}
use Rattle.ir_parts.specs.declared.fault.ItemFault.{ItemFault}
use Rattle.ir_parts.specs.declared.fault.ItemFault.TheVariants.{CannotGoOn, OutOfMemory}
use Rattle.ir_parts.specs.Reading.{left_from, taking, Reads, Passes, begins, token_at, is_keyword}
use Rattle.ir_parts.specs.WordsReading.{is_group}
use Rattle.ir_parts.proofs.Readers.{IsReader, Anything, of_language, mapped, chosen}
use Rattle.ir_parts.proofs.Combined.{behind_token, not_at_first}
use Rattle.ir_parts.proofs.SingleTokens.{both_true, keyword_reads, sign_reads, is_itself}
use Rattle.ir_parts.proofs.StringTexts.{is_quoted_by, quoted_is_string, inner_of}
use Rattle.ir_parts.proofs.PieceTokens.{quoted_kind, group_there, group_back}
use Rattle.ir_parts.proofs.PieceReaders.{string_reads}
use Rattle.ir_parts.proofs.MetadataReaders.{single, braces_read}
use Rattle.ir_parts.proofs.TakingReader.{WithTokens, taking_reads}
use Rattle.ir_parts.proofs.Places.{length_left}
use Rattle.ir_items.specs.LayoutScan.{is_fine_layout, is_fine_behind, is_other_pointer}
use Rattle.ir_items.specs.LineReading.{is_layout_text, is_layout, string_set_at, layout_set_at, braces_set_at, source_line_at, triple_at, data_layout_at, target_at, target_line_at, attributes_line_at, other_line_at, line_at, passed_line_at}
use Rattle.ir_items.proofs.FineLayouts.{fine_there, fine_back}

-- ---- the string of a data layout

-- its test, both ways
layout_there : (t : Lexeme) → is_layout t ≡ true → IsLayout t
layout_there t e =
    let parts = and_parts (is_quoted t.kind) (is_layout_text t.text) e in
    let both = and_parts (is_string_text t.text) (is_fine_layout (inner_text t.text)) parts.1 in
    let quoted = is_quoted_by t.text both.0 in
    let inner : inner_text t.text ≡ quoted.0 = ap inner_text quoted.1 ∙ inner_of quoted.0 in (
      quoted_kind t.kind parts.0,
      quoted.0,
      quoted.1,
      quoted.2,
      fine_there quoted.0 (sym (ap is_fine_layout inner) ∙ both.1),
    )

layout_back : (t : Lexeme) → IsLayout t → is_layout t ≡ true
layout_back t is =
    both_true (is_quoted t.kind) (is_layout_text t.text) (ap is_quoted is.0)
    (both_true (is_string_text t.text) (is_fine_layout (inner_text t.text))
    (quoted_is_string t.text (unescaped is.1) (is.1, is.2, is.3, refl))
    (ap (λ (text : List ℕ). is_fine_layout (inner_text text)) is.2
    ∙ (ap is_fine_layout (inner_of is.1) ∙ fine_back is.1 is.4)))

-- one of them
empty_layout : IsLayout (record { kind = Quoted; text = 34 ∷ 34 ∷ [] })
unfolding is_fine_behind is_other_pointer
empty_layout = (refl, [], refl, refl, fine_there [] refl)

-- it is read
layout_reads : IsReader (token_at is_layout) (λ (x : Unit {0}). one IsLayout) Anything
layout_reads = single is_layout IsLayout layout_there layout_back (record { kind = Quoted; text = 34 ∷ 34 ∷ [] })
    empty_layout

-- a group of attributes is read
a_group : IsAttributeGroup (record { kind = Group; text = codes "#0" })
unfolding is_signed_number is_number is_digit
a_group = (refl, codes "0", refl, refl)

group_token_reads : IsReader (token_at is_group) (λ (x : Unit {0}). one IsAttributeGroup) Anything
group_token_reads = single is_group IsAttributeGroup group_there group_back (record {
  kind = Group;
  text =
      codes "#0";
}) a_group

-- ---- lines

-- their languages, in the order of the reading
abbrev string_set : Language
string_set = punctuation 61 · one IsStringToken

abbrev layout_set : Language
layout_set = punctuation 61 · one IsLayout

abbrev braces_set : Language
braces_set = punctuation 61 · in_braces

abbrev source_line : Language
source_line = keyword (codes "source_filename") · string_set

abbrev triple : Language
triple = keyword (codes "triple") · string_set

abbrev data_layout : Language
data_layout = keyword (codes "datalayout") · layout_set

abbrev target_line : Language
target_line = keyword (codes "target") · (triple or data_layout)

abbrev attributes_line : Language
attributes_line = keyword (codes "attributes") · one IsAttributeGroup · braces_set

-- what begins with a word, and with another
word_first : (text : List ℕ) (B : Language) (ts : List Lexeme) → (keyword text · B) ts
    → begins (is_keyword text) ts ≡ true
word_first text B ts l = rw (l.2, l.3) (is_itself text)

word_other : (text other : List ℕ) (B : Language) (taken rest : List Lexeme) → is_keyword text (word other) ≡ false
    → (keyword other · B) taken → begins (is_keyword text) (taken ++ rest) ≡ false
word_other text other B taken rest apart l = rw (l.2, l.3) apart

-- each part is read
string_set_reads : IsReader string_set_at (λ (x : Unit {0}). string_set) Anything
unfolding string_set_at
string_set_reads = behind_token (sign_reads 61) string_reads

layout_set_reads : IsReader layout_set_at (λ (x : Unit {0}). layout_set) Anything
unfolding layout_set_at
layout_set_reads = behind_token (sign_reads 61) layout_reads

braces_set_reads : IsReader braces_set_at (λ (x : Unit {0}). braces_set) Anything
unfolding braces_set_at
braces_set_reads = behind_token (sign_reads 61) braces_read

source_line_reads : IsReader source_line_at (λ (x : Unit {0}). source_line) Anything
unfolding source_line_at
source_line_reads = behind_token (keyword_reads (codes "source_filename")) string_set_reads

triple_reads : IsReader triple_at (λ (x : Unit {0}). triple) Anything
unfolding triple_at
triple_reads = behind_token (keyword_reads (codes "triple")) string_set_reads

data_layout_reads : IsReader data_layout_at (λ (x : Unit {0}). data_layout) Anything
unfolding data_layout_at
data_layout_reads = behind_token (keyword_reads (codes "datalayout")) layout_set_reads

-- the word that decides is taken
triple_begun : (t : Lexeme) (ts : List Lexeme) → is_keyword (codes "triple") t ≡ true
    → triple_at (t ∷ ts) ≡ Err (suc (length ts)) → ⊥
unfolding triple_at
triple_begun t ts passed e = not_at_first (is_keyword (codes "triple")) string_set_reads t ts passed e

target_reads : IsReader target_at (λ (x : Unit {0}). triple or data_layout) Anything
unfolding target_at
target_reads = chosen (is_keyword (codes "triple")) triple_reads data_layout_reads
    (λ x ts l. word_first (codes "triple") string_set ts l)
    (λ x taken rest l stops. word_other (codes "triple") (codes "datalayout") layout_set taken rest refl l)
    triple_begun

target_line_reads : IsReader target_line_at (λ (x : Unit {0}). target_line) Anything
unfolding target_line_at
target_line_reads = behind_token (keyword_reads (codes "target")) target_reads

attributes_line_reads : IsReader attributes_line_at (λ (x : Unit {0}). attributes_line) Anything
unfolding attributes_line_at
attributes_line_reads = behind_token (keyword_reads (codes "attributes")) (behind_token group_token_reads
    braces_set_reads)

-- and here too
target_begun : (t : Lexeme) (ts : List Lexeme) → is_keyword (codes "target") t ≡ true
    → target_line_at (t ∷ ts) ≡ Err (suc (length ts)) → ⊥
unfolding target_line_at
target_begun t ts passed e = not_at_first (is_keyword (codes "target")) target_reads t ts passed e

other_line_reads : IsReader other_line_at (λ (x : Unit {0}). target_line or attributes_line) Anything
unfolding other_line_at
other_line_reads = chosen (is_keyword (codes "target")) target_line_reads attributes_line_reads
    (λ x ts l. word_first (codes "target") (triple or data_layout) ts l)
    (λ x taken rest l stops.
    word_other (codes "target") (codes "attributes") (one IsAttributeGroup · braces_set) taken rest refl l)
    target_begun

-- and here
source_begun : (t : Lexeme) (ts : List Lexeme) → is_keyword (codes "source_filename") t ≡ true
    → source_line_at (t ∷ ts) ≡ Err (suc (length ts)) → ⊥
unfolding source_line_at
source_begun t ts passed e = not_at_first (is_keyword (codes "source_filename")) string_set_reads t ts passed e

-- the other lines begin with other words
no_source : (taken rest : List Lexeme) → (target_line or attributes_line) taken
    → begins (is_keyword (codes "source_filename")) (taken ++ rest) ≡ false
no_source taken rest (inl l) =
    word_other (codes "source_filename") (codes "target") (triple or data_layout) taken rest refl l
no_source taken rest (inr l) =
    word_other (codes "source_filename") (codes "attributes") (one IsAttributeGroup · braces_set) taken rest refl l

-- the four kinds of lines are those of the grammar
line_there : (ts : List Lexeme) → (source_line or (target_line or attributes_line)) ts → passed_line ts
line_there ts (inl l) = inl l
line_there ts (inr (inl (us, vs, parts, first, inl l))) = inr (inl (us, vs, parts, first, l))
line_there ts (inr (inl (us, vs, parts, first, inr l))) = inr (inr (inl (us, vs, parts, first, l)))
line_there ts (inr (inr l)) = inr (inr (inr l))

line_back : (ts : List Lexeme) → passed_line ts → (source_line or (target_line or attributes_line)) ts
line_back ts (inl l) = inl l
line_back ts (inr (inl (us, vs, parts, first, l))) = inr (inl (us, vs, parts, first, inl l))
line_back ts (inr (inr (inl (us, vs, parts, first, l)))) = inr (inl (us, vs, parts, first, inr l))
line_back ts (inr (inr (inr l))) = inr (inr l)

-- Lines are read, and nothing continues one.
pub line_reads : IsReader line_at (λ (x : Unit {0}). passed_line) Anything
unfolding line_at
line_reads = of_language (λ (x : Unit {0}). passed_line) (λ x ts l. line_there ts l) (λ x ts l. line_back ts l)
    (chosen (is_keyword (codes "source_filename")) source_line_reads other_line_reads
    (λ x ts l. word_first (codes "source_filename") string_set ts l)
    (λ x taken rest l stops. no_source taken rest l)
    source_begun)

-- ---- their texts

-- a line, and the text that it is passed on as
abbrev pub SpellsLine : List ℕ → Language
SpellsLine text ts = passed_line ts × (text ≡ passed_text ts)

-- the same by the tokens
abbrev FromTokens : List ℕ → Language
FromTokens text ts = (taken : Unit {0} × List Lexeme) × (text ≡ passed_text taken.1)
    × WithTokens (λ (x : Unit {0}). passed_line) taken ts

-- Lines are read with the texts that they are passed on as.
pub passed_line_reads : IsReader passed_line_at SpellsLine Anything
unfolding passed_line_at
passed_line_reads = of_language SpellsLine there back
    (mapped (λ (p : Unit {0} × List Lexeme). passed_text p.1) Anything (λ p t stop. tt) (λ p t stop. tt)
    (taking_reads line_reads))
  where
    there : (text : List ℕ) (ts : List Lexeme) → FromTokens text ts → SpellsLine text ts
    there text ts (taken, says, (spelled, same)) = (spelled, says ∙ ap passed_text same)

    back : (text : List ℕ) (ts : List Lexeme) → SpellsLine text ts → FromTokens text ts
    back text ts l = ((tt, ts), l.1, (l.0, refl))

-- ---- the code

-- what was taken from a place to another
pub line_taken : (t : Tokenized) (from at : ℕ) (text : List ℕ) → from ≤ at → at ≤ length t.tokens
    → line_at (left_from t from) ≡ Ok (tt, left_from t at)
    → text ≡ passed_text (take (at - from) (left_from t from))
    → passed_line_at (left_from t from) ≡ Ok (text, left_from t at)
unfolding passed_line_at taking
line_taken t from at text forth within read says =
    let so_many : length (left_from t from) - length (left_from t at) ≡ at - from =
    omega (arith, length_left t from, length_left t at) in
    rw read (ap (λ (n : ℕ). Ok (passed_text (take n (left_from t from)), left_from t at)) so_many
    ∙ ap (λ (text : List ℕ). Ok (text, left_from t at)) (sym says))

-- a fault of the line is one of the reading
pub line_refused : (t : Tokenized) (from : ℕ) (fault : ItemFault) → Passes t (Err fault) (line_at (left_from t from))
    → Reads {X = List ℕ} t (Err fault) (passed_line_at (left_from t from))
unfolding passed_line_at taking
line_refused t from OutOfMemory e = tt
line_refused t from (CannotGoOn at) e = (rw e.0 refl, e.1)
