-- Items are read, each by its first token.
use Rattle.std.proofs.Common.{◌≡◌, ℕ, suc, Bool, true, false, ◌&&◌, List, [], ◌∷◌, ◌++◌, length, drop, Option, Some, None, Err, ◌⊎◌, inl, inr, refl, sym, ap, subst, ◌∙◌, codes}
use Rattle.std.specs.Option.{is_some}
use Rattle.std.specs.List.{starts_with}
use Rattle.std.specs.Prelude.{nat_eq, if◌then◌else◌}
use Rattle.ir_model.specs.declared.function.Function.{Function}
use Rattle.ir_model.specs.declared.item.Global_.{Global_}
use Rattle.ir_model.specs.declared.item.Declare.{Declare}
use Rattle.ir_text.specs.declared.token.TokenKind.{TokenKind}
use Rattle.ir_text.specs.declared.token.TokenKind.TheVariants.{Metadata}
use Rattle.ir_text.specs.declared.token.TokenKind.TheVariants as kind
use Rattle.ir_text.specs.Tokens.{Lexeme}
use Rattle.ir_text.specs.Listed.{word, sign}
use Rattle.ir_text.specs.Language.{Language, ◌·◌, ◌or◌, one, keyword}
use Rattle.ir_text.specs.Written.{IsGlobal}
use Rattle.ir_text.specs.Said.{said_global, said_global_text, is_global_kind}
use Rattle.ir_text.specs.Mentions.{Mention}
use Rattle.ir_grammar.specs.Functions.{SpellsFunction}
use Rattle.ir_grammar.specs.Items.{passed_line}
use Rattle.ir_parts.specs.declared.ending.Ending.{Ending}
use Rattle.ir_parts.specs.Reading.{Read, begins, is_punctuation, is_keyword}
use Rattle.ir_parts.specs.MetadataReading.{is_metadata_kind, is_metadata}
use Rattle.ir_parts.specs.Runs.{goes_on, ends_run}
use Rattle.ir_parts.proofs.Readers.{IsReader, Anything, mapped, chosen}
use Rattle.ir_parts.proofs.NoneGoesOn.{refused_there}
use Rattle.ir_parts.proofs.SingleTokens.{is_word, is_itself}
use Rattle.ir_parts.proofs.SaidNames.{global_there, global_back}
use Rattle.ir_parts.proofs.RunEnds.{opening_ends, global_ends, metadata_ends}
use Rattle.ir_body.proofs.Tellers.{IsTeller}
use Rattle.ir_items.specs.declared.global_ending.GlobalEnding.{GlobalEnding}
use Rattle.ir_items.specs.TailReading.{goes_on_global}
use Rattle.ir_items.specs.DroppedReading.{metadata_item}
use Rattle.ir_items.specs.GlobalReading.{global_of}
use Rattle.ir_items.proofs.LastTokens.{no_comma}
use Rattle.ir_items.proofs.GlobalReaders.{SpellsEnded, ended_globals}
use Rattle.ir_items.proofs.DroppedReaders.{metadata_item_reads}
use Rattle.ir_items.proofs.DeclareReader.{SpellsEndedDeclare, ended_declares}
use Rattle.ir_items.proofs.LineReaders.{SpellsLine, passed_line_reads}
use Rattle.ir_functions.specs.Functions.{function_at}
use Rattle.ir_reader.specs.declared.items.ItemEnding.{ItemEnding}
use Rattle.ir_reader.specs.declared.items.ItemEnding.TheVariants.{Whole, Global, Declared}
use Rattle.ir_reader.specs.ItemsReading.{Told, of_global, of_metadata, of_declare, of_function, of_line, is_global_name, global_item_at, metadata_dropped_at, declare_item_at, function_item_at, line_item_at, defined_or_line_at, worded_item_at, unnamed_item_at, item_at}

-- ---- what stops an item

abbrev pub StopsEnding : ItemEnding → Lexeme → Type 0
StopsEnding Whole t = Unit {0}
StopsEnding (Global ending) t = goes_on_global ending t ≡ false
StopsEnding (Declared ending) t = goes_on ending t ≡ false

abbrev pub StopsItem : Told → Lexeme → Type 0
StopsItem told t = StopsEnding told.0.1 t

-- ---- the languages

abbrev pub GlobalItem : Told → Language
GlobalItem told ts = (ended : Global_ × GlobalEnding) × (told ≡ of_global ended) × SpellsEnded ended ts

abbrev pub MetadataDropped : Told → Language
MetadataDropped told ts = (x : Unit {0}) × (told ≡ of_metadata x) × metadata_item ts

abbrev pub DeclareItem : Told → Language
DeclareItem told ts = (ended : Option Declare × Ending) × (told ≡ of_declare ended) × SpellsEndedDeclare ended ts

abbrev pub FunctionItem : Told → Language
FunctionItem told ts = (f : Function × List Mention) × (told ≡ of_function f) × SpellsFunction f.0 f.1 ts

abbrev pub LineItem : Told → Language
LineItem told ts = (text : List ℕ) × (told ≡ of_line text) × SpellsLine text ts

abbrev pub DefinedOrLine : Told → Language
DefinedOrLine told = FunctionItem told or LineItem told

abbrev pub WordedItem : Told → Language
WordedItem told = DeclareItem told or DefinedOrLine told

abbrev pub UnnamedItem : Told → Language
UnnamedItem told = MetadataDropped told or WordedItem told

abbrev pub SpellsTold : Told → Language
SpellsTold told = GlobalItem told or UnnamedItem told

-- ---- how they begin

-- it begins with such a token
abbrev pub BeginsWith : (Lexeme → Type 0) → Language
BeginsWith Is ts = (t : Lexeme) × (more : List Lexeme) × (ts ≡ t ∷ more) × Is t

one_first : (Is : Lexeme → Type 0) (B : Language) (ts : List Lexeme) → (one Is · B) ts → BeginsWith Is ts
one_first Is B ts l = (l.3.0, l.1, l.2 ∙ ap (λ (us : List Lexeme). us ++ l.1) l.3.1, l.3.2)

word_first : (text : List ℕ) (B : Language) (ts : List Lexeme) → (keyword text · B) ts
    → BeginsWith (λ t. t ≡ word text) ts
word_first text B ts l = (word text, l.1, l.2 ∙ ap (λ (us : List Lexeme). us ++ l.1) l.3, refl)

global_first : (told : Told) (ts : List Lexeme) → GlobalItem told ts
    → BeginsWith (λ t. (name : List ℕ) × IsGlobal name t) ts
global_first told ts (ended, says, (p, is, (us, vs, parts, (n, ns, n_parts, name, equals), described))) = (
  name.0,
  ns ++ vs,
  parts ∙ ap (λ (us : List Lexeme). us ++ vs) (n_parts ∙ ap (λ (us : List Lexeme). us ++ ns) name.1),
  (p.0, name.2),
)

metadata_first : (told : Told) (ts : List Lexeme) → MetadataDropped told ts → BeginsWith (λ t. t.kind ≡ Metadata) ts
metadata_first told ts (x, says, (us, vs, parts, first, rest)) =
    (first.0, vs, parts ∙ ap (λ (us : List Lexeme). us ++ vs) first.1, first.2)

declare_first : (told : Told) (ts : List Lexeme) → DeclareItem told ts
    → BeginsWith (λ t. t ≡ word (codes "declare")) ts
declare_first told ts (ended, says, (head, (us, vs, parts, (n, ns, n_parts, first, rest), behind))) = (
  word (codes "declare"),
  ns ++ vs,
  parts ∙ ap (λ (us : List Lexeme). us ++ vs) (n_parts ∙ ap (λ (us : List Lexeme). us ++ ns) first),
  refl,
)

function_first : (told : Told) (ts : List Lexeme) → FunctionItem told ts
    → BeginsWith (λ t. t ≡ word (codes "define")) ts
function_first told ts (f, says, (before, after, w, b, v, l, all)) = (
  word (codes "define"),
  all.3.1,
  all.3.2 ∙ ap (λ (us : List Lexeme). us ++ all.3.1) all.3.3.1,
  refl,
)

-- the words that begin lines
abbrev pub IsLineWord : Lexeme → Type 0
IsLineWord t = (t ≡ word (codes "source_filename")) ⊎ (t ≡ word (codes "target")) ⊎ (t ≡ word (codes "attributes"))

passed_first : (ts : List Lexeme) → passed_line ts → BeginsWith IsLineWord ts
passed_first ts (inl l) =
    (word (codes "source_filename"), l.1, l.2 ∙ ap (λ (us : List Lexeme). us ++ l.1) l.3, inl refl)
passed_first ts (inr (inl l)) =
    (word (codes "target"), l.1, l.2 ∙ ap (λ (us : List Lexeme). us ++ l.1) l.3, inr (inl refl))
passed_first ts (inr (inr (inl l))) =
    (word (codes "target"), l.1, l.2 ∙ ap (λ (us : List Lexeme). us ++ l.1) l.3, inr (inl refl))
passed_first ts (inr (inr (inr l))) =
    (word (codes "attributes"), l.1, l.2 ∙ ap (λ (us : List Lexeme). us ++ l.1) l.3, inr (inr refl))

line_first : (told : Told) (ts : List Lexeme) → LineItem told ts → BeginsWith IsLineWord ts
line_first told ts l = passed_first ts l.2.0

-- ---- tests of the first token

passes : (test : Lexeme → Bool) (Is : Lexeme → Type 0) → ((t : Lexeme) → Is t → test t ≡ true) → (ts : List Lexeme)
    → BeginsWith Is ts → begins test ts ≡ true
passes test Is each ts l = ap (begins test) l.2 ∙ each l.0 l.3

fails : (test : Lexeme → Bool) (Is : Lexeme → Type 0) → ((t : Lexeme) → Is t → test t ≡ false)
    → (ts rest : List Lexeme) → BeginsWith Is ts → begins test (ts ++ rest) ≡ false
fails test Is each ts rest l = ap (λ (ts : List Lexeme). begins test (ts ++ rest)) l.2 ∙ each l.0 l.3

-- a token of another kind is no name of a global, and no metadata
no_global : (t : Lexeme) (kind : TokenKind) → t.kind ≡ kind → is_global_kind kind ≡ false → is_global_name t ≡ false
unfolding said_global
no_global t kind is other =
    ap (λ b. is_some (if b && starts_with nat_eq t.text (64 ∷ []) then said_global_text (drop 1 t.text) else None))
    (ap is_global_kind is ∙ other)

is_named : (t : Lexeme) → ((name : List ℕ) × IsGlobal name t) → is_global_name t ≡ true
is_named t is = ap is_some (global_back is.0 t is.1)

there_is : (t : Lexeme) → is_global_name t ≡ true → (name : List ℕ) × IsGlobal name t
there_is t e = by (said_global t) refl e
  where
    by : (said : Option (List ℕ)) → said_global t ≡ said → is_some said ≡ true → (name : List ℕ) × IsGlobal name t
    by None is e = absurd cc
    by (Some name) is e = (name, global_there name t is)

same_word : (text : List ℕ) (t : Lexeme) → t ≡ word text → is_keyword text t ≡ true
same_word text t is = ap (is_keyword text) is ∙ is_itself text

-- a token that begins no line
line_word : (test : Lexeme → Bool) → test (word (codes "source_filename")) ≡ false
    → test (word (codes "target")) ≡ false → test (word (codes "attributes")) ≡ false → (t : Lexeme) → IsLineWord t
    → test t ≡ false
line_word test source target attributes t (inl is) = ap test is ∙ source
line_word test source target attributes t (inr (inl is)) = ap test is ∙ target
line_word test source target attributes t (inr (inr is)) = ap test is ∙ attributes

-- ---- the first token is taken

taken_first : {X : Type 0} {read : Read X} {L : X → List Lexeme → Type 0} {Stop : X → Lexeme → Type 0}
    → IsReader read L Stop → (x : X) (t : Lexeme) (more : List Lexeme) → L x (t ∷ more)
    → (ts : List Lexeme) → read (t ∷ ts) ≡ Err (suc (length ts)) → ⊥
taken_first r x t more l ts e = refused_there r [] ts t e (record { whole = x; others = more; sentence = l })

-- where each sentence begins with one word
word_taken : {X : Type 0} {read : Read X} {L : X → List Lexeme → Type 0} {Stop : X → Lexeme → Type 0}
    → IsReader read L Stop → (text : List ℕ) → ((x : X) (ts : List Lexeme) → L x ts
    → BeginsWith (λ t. t ≡ word text) ts) → (t : Lexeme) (ts : List Lexeme) → is_keyword text t ≡ true
    → read (t ∷ ts) ≡ Err (suc (length ts)) → ⊥
word_taken {L = L} r text first t ts passed e =
    let begin = first r.some r.sentence r.sample in
    let all : r.sentence ≡ t ∷ begin.1 =
    begin.2 ∙ ap (λ (u : Lexeme). u ∷ begin.1) (begin.3 ∙ sym (is_word text t passed)) in
    taken_first r r.some t begin.1 (subst (λ (ts : List Lexeme). L r.some ts) all r.sample) ts e

-- ---- the readers

global_items : IsReader global_item_at GlobalItem StopsItem
unfolding global_item_at
global_items = mapped of_global StopsItem (λ ended t stop. stop) (λ ended t stop. stop) ended_globals

metadata_items : IsReader metadata_dropped_at MetadataDropped StopsItem
unfolding metadata_dropped_at
metadata_items = mapped of_metadata StopsItem (λ x t stop. tt) (λ x t stop. tt) metadata_item_reads

declare_items : IsReader declare_item_at DeclareItem StopsItem
unfolding declare_item_at
declare_items = mapped of_declare StopsItem (λ ended t stop. stop) (λ ended t stop. stop) ended_declares

line_items : IsReader line_item_at LineItem StopsItem
unfolding line_item_at
line_items = mapped of_line StopsItem (λ text t stop. tt) (λ text t stop. tt) passed_line_reads

-- a name of a global is taken: a sentence begins with it
global_taken : (t : Lexeme) (ts : List Lexeme) → is_global_name t ≡ true
    → global_item_at (t ∷ ts) ≡ Err (suc (length ts)) → ⊥
global_taken t ts passed e = by global_items.some global_items.sentence global_items.sample
  where
    by : (told : Told) (sentence : List Lexeme) → GlobalItem told sentence → ⊥
    by told sentence (ended, says, (p, is, (us, vs, parts, named, described))) =
        let name = there_is t passed in
        taken_first global_items (of_global (global_of (name.0, p.1))) t (sign 61 ∷ vs) (
          global_of (name.0, p.1),
          refl,
          (
            (name.0, p.1),
            refl,
            (t ∷ sign 61 ∷ [], vs, refl, (t ∷ [], sign 61 ∷ [], refl, (t, refl, name.1), refl), described),
          ),
        ) ts e

metadata_taken : (t : Lexeme) (ts : List Lexeme) → is_metadata t ≡ true
    → metadata_dropped_at (t ∷ ts) ≡ Err (suc (length ts)) → ⊥
metadata_taken t ts passed e = by metadata_items.some metadata_items.sentence metadata_items.sample
  where
    is_kind : (kind : TokenKind) → is_metadata_kind kind ≡ true → kind ≡ Metadata
    is_kind Metadata e = refl
    is_kind _ e = absurd cc

    by : (told : Told) (sentence : List Lexeme) → MetadataDropped told sentence → ⊥
    by told sentence (x, says, (us, vs, parts, first, rest)) =
        taken_first metadata_items (of_metadata x) t vs
        (x, refl, (t ∷ [], vs, refl, (t, refl, is_kind t.kind passed), rest)) ts e

module _ (functions : IsTeller function_at SpellsFunction Anything) where
  function_items : IsReader function_item_at FunctionItem StopsItem
  unfolding function_item_at
  function_items = mapped of_function StopsItem (λ f t stop. tt) (λ f t stop. tt) functions.reader

  defined_or_lines : IsReader defined_or_line_at DefinedOrLine StopsItem
  unfolding defined_or_line_at
  defined_or_lines = chosen (is_keyword (codes "define")) function_items line_items
      (λ told ts l. passes (is_keyword (codes "define")) (λ t. t ≡ word (codes "define"))
      (same_word (codes "define")) ts (function_first told ts l))
      (λ told taken rest l stops. fails (is_keyword (codes "define")) IsLineWord
      (line_word (is_keyword (codes "define")) refl refl refl) taken rest (line_first told taken l))
      (word_taken function_items (codes "define") function_first)

  defined_other : (test : Lexeme → Bool) → test (word (codes "define")) ≡ false
      → test (word (codes "source_filename")) ≡ false → test (word (codes "target")) ≡ false
      → test (word (codes "attributes")) ≡ false → (told : Told) (taken rest : List Lexeme) → DefinedOrLine told taken
      → begins test (taken ++ rest) ≡ false
  defined_other test define source target attributes told taken rest (inl l) =
      fails test (λ t. t ≡ word (codes "define")) (λ t is. ap test is ∙ define) taken rest (function_first told taken l)
  defined_other test define source target attributes told taken rest (inr l) =
      fails test IsLineWord (line_word test source target attributes) taken rest (line_first told taken l)

  worded_items : IsReader worded_item_at WordedItem StopsItem
  unfolding worded_item_at
  worded_items = chosen (is_keyword (codes "declare")) declare_items defined_or_lines
      (λ told ts l. passes (is_keyword (codes "declare")) (λ t. t ≡ word (codes "declare"))
      (same_word (codes "declare")) ts (declare_first told ts l))
      (λ told taken rest l stops. defined_other (is_keyword (codes "declare")) refl refl refl refl told taken rest l)
      (word_taken declare_items (codes "declare") declare_first)

  worded_other : (test : Lexeme → Bool) → test (word (codes "declare")) ≡ false → test (word (codes "define")) ≡ false
      → test (word (codes "source_filename")) ≡ false → test (word (codes "target")) ≡ false
      → test (word (codes "attributes")) ≡ false → (told : Told) (taken rest : List Lexeme) → WordedItem told taken
      → begins test (taken ++ rest) ≡ false
  worded_other test declare define source target attributes told taken rest (inl l) =
      fails test (λ t. t ≡ word (codes "declare")) (λ t is. ap test is ∙ declare) taken rest
      (declare_first told taken l)
  worded_other test declare define source target attributes told taken rest (inr l) =
      defined_other test define source target attributes told taken rest l

  unnamed_items : IsReader unnamed_item_at UnnamedItem StopsItem
  unfolding unnamed_item_at
  unnamed_items = chosen is_metadata metadata_items worded_items
      (λ told ts l. passes is_metadata (λ t. t.kind ≡ Metadata) (λ t is. ap is_metadata_kind is) ts
      (metadata_first told ts l))
      (λ told taken rest l stops. worded_other is_metadata refl refl refl refl refl told taken rest l)
      metadata_taken

  unnamed_other : (told : Told) (taken rest : List Lexeme) → UnnamedItem told taken
      → begins is_global_name (taken ++ rest) ≡ false
  unfolding said_global
  unnamed_other told taken rest (inl l) =
      fails is_global_name (λ t. t.kind ≡ Metadata) (λ t is. no_global t Metadata is refl) taken rest
      (metadata_first told taken l)
  unnamed_other told taken rest (inr l) = worded_other is_global_name refl refl refl refl refl told taken rest l

  -- Items are read.
  pub items_read_each : IsReader item_at SpellsTold StopsItem
  unfolding item_at
  items_read_each = chosen is_global_name global_items unnamed_items
      (λ told ts l. passes is_global_name (λ t. (name : List ℕ) × IsGlobal name t) is_named ts (global_first told ts l))
      (λ told taken rest l stops. unnamed_other told taken rest l)
      global_taken

-- ---- what opens an item stops each other one

-- It ends every run of words, and is no comma.
abbrev pub IsOpener : Lexeme → Type 0
IsOpener t = (ends_run t ≡ true) × (is_punctuation 44 t ≡ false)

word_opener : (text : List ℕ) → ends_run (word text) ≡ true → (t : Lexeme) → t ≡ word text → IsOpener t
word_opener text ends t is = (ap ends_run is ∙ ends, ap (is_punctuation 44) is)

line_opener : (t : Lexeme) → IsLineWord t → IsOpener t
line_opener t (inl is) = word_opener (codes "source_filename") (opening_ends (codes "source_filename") refl) t is
line_opener t (inr (inl is)) = word_opener (codes "target") (opening_ends (codes "target") refl) t is
line_opener t (inr (inr is)) = word_opener (codes "attributes") (opening_ends (codes "attributes") refl) t is

with_opener : (Is : Lexeme → Type 0) → ((t : Lexeme) → Is t → IsOpener t) → (ts : List Lexeme) → BeginsWith Is ts
    → BeginsWith IsOpener ts
with_opener Is each ts l = (l.0, l.1, l.2, each l.0 l.3)

pub begins_so : (told : Told) (ts : List Lexeme) → SpellsTold told ts → BeginsWith IsOpener ts
begins_so told ts (inl l) =
    with_opener (λ t. (name : List ℕ) × IsGlobal name t)
    (λ t is. (global_ends t is.1.0, no_comma t kind.Global is.1.0 refl)) ts (global_first told ts l)
begins_so told ts (inr (inl l)) =
    with_opener (λ t. t.kind ≡ Metadata) (λ t is. (metadata_ends t is, no_comma t Metadata is refl)) ts
    (metadata_first told ts l)
begins_so told ts (inr (inr (inl l))) =
    with_opener (λ t. t ≡ word (codes "declare"))
    (word_opener (codes "declare") (opening_ends (codes "declare") refl)) ts (declare_first told ts l)
begins_so told ts (inr (inr (inr (inl l)))) =
    with_opener (λ t. t ≡ word (codes "define")) (word_opener (codes "define") (opening_ends (codes "define") refl)) ts
    (function_first told ts l)
begins_so told ts (inr (inr (inr (inr l)))) = with_opener IsLineWord line_opener ts (line_first told ts l)
