-- The parts of a function are read: what stands before the parameters, what stands behind them, and the blocks.
use Rattle.std.proofs.Common.{◌≡◌, ℕ, Bool, true, false, List, [], ◌∷◌, ◌++◌, Option, inl, refl, sym, ap, subst, ◌∙◌, append_assoc, codes}
use Rattle.std.proofs.lemmas.List.{append-nil}
use Rattle.ir_model.specs.declared.types.IrType.{IrType}
use Rattle.ir_model.specs.declared.function.Block.{Block}
use Rattle.ir_text.specs.Bytes.{is_letter, begins_word}
use Rattle.ir_text.specs.Names.{is_word}
use Rattle.ir_text.specs.Tokens.{Lexeme}
use Rattle.ir_text.specs.Listed.{global, InSequence}
use Rattle.ir_text.specs.Language.{◌·◌, one, punctuation}
use Rattle.ir_text.specs.Language.Many.{none, more}
use Rattle.ir_text.specs.Written.{IsGlobal}
use Rattle.ir_text.specs.Said.{said_global}
use Rattle.ir_text.specs.Mentions.{Mention, Mentioning, ◌⊙◌, silent, InOrder}
use Rattle.ir_model.specs.Kinds.{IsReturned}
use Rattle.ir_text.specs.PassedOn.{metadata_pairs}
use Rattle.ir_grammar.specs.Operations.{the_word, the_sign, the_type}
use Rattle.ir_grammar.specs.Functions.{SpellsBlock}
use Rattle.ir_parts.specs.declared.ending.Ending.{Ending}
use Rattle.ir_parts.specs.declared.ending.Run.{Run}
use Rattle.ir_parts.specs.Reading.{begins, is_punctuation, one_at}
use Rattle.ir_parts.specs.MetadataReading.{pairs_at}
use Rattle.ir_parts.specs.Runs.{SpellsRunText, ends_run}
use Rattle.ir_parts.proofs.Readers.{StopsAt, IsReader, Anything, one_reads}
use Rattle.ir_parts.proofs.SingleTokens.{is_sign}
use Rattle.ir_parts.proofs.TypeReaders.{returned_types}
use Rattle.ir_parts.proofs.MetadataReaders.{pairs_read, NoMetadata}
use Rattle.ir_parts.proofs.UpToReader.{up_to_reads}
use Rattle.ir_parts.proofs.SaidNames.{global_there, global_back}
use Rattle.ir_parts.proofs.RunEnds.{ended_by, type_ends, metadata_ends}
use Rattle.ir_parts.proofs.WordsReader.{StopsWords, words_read}
use Rattle.ir_body.specs.declared.operation.Operation.{Operation}
use Rattle.ir_body.specs.Telling.{Telling, ◌▷◌, ◌⊗◌, silently, sign_at}
use Rattle.ir_body.specs.Gathered.{gathered}
use Rattle.ir_body.proofs.Tellers.{IsTeller, Follows, silent_tells, told_as, each_tells, made_tells, skip, both, both_told, word_tells, sign_tells}
use Rattle.ir_body.proofs.GatheredTellers.{Told, gathered_tells, in_order, from_order}
use Rattle.ir_functions.specs.Functions.{block_at, blocks_at, signature_at, opening_at}
use Rattle.ir_functions.proofs.LineFacts.{ReadsCalls}
use Rattle.ir_functions.proofs.BlockTellers.{block_tells, block_begins}

-- ---- before the parameters

global_reads : IsReader (one_at said_global) (λ name. one (IsGlobal name)) Anything
unfolding is_word begins_word is_letter
global_reads = one_reads said_global IsGlobal global_there global_back (codes "a") (global (codes "a"))
    (refl, codes "a", refl, inl (refl, refl))

abbrev SpellsCallee : IrType × List ℕ → Mentioning
SpellsCallee p = the_type IsReturned p.0 ⊙ silent (one (IsGlobal p.1))

callee_ends : (words : Run × List ℕ) (p : IrType × List ℕ) (ms : List Mention) (taken rest : List Lexeme)
    → SpellsCallee p ms taken → StopsAt (StopsWords words) (taken ++ rest)
callee_ends words p ms taken rest l =
    subst (λ (ts : List Lexeme). StopsAt (StopsWords words) ts)
    (sym (ap (λ (ts : List Lexeme). ts ++ rest) l.3.2 ∙ append_assoc l.3.0 l.3.1 rest))
    (ended_by words.0 l.3.0 (l.3.1 ++ rest) (type_ends p.0 l.3.0 l.3.3.1.1))

-- words, the type, and the name
abbrev pub SpellsSignature : (Run × List ℕ) × (IrType × List ℕ) → Mentioning
SpellsSignature p = the_word (codes "define") ⊙ (silent (SpellsRunText p.0) ⊙ SpellsCallee p.1)

pub signature_tells : IsTeller signature_at SpellsSignature Anything
unfolding signature_at
signature_tells = skip (word_tells (codes "define"))
    (both_told (silent_tells words_read) (both (silent_tells returned_types) (silent_tells global_reads))
    (λ words p ms taken rest l stops. callee_ends words p ms taken rest l))

-- ---- behind the parameters

-- what says nothing and goes on, and then something
pub skip_told : {Y : Type 0} {a : Telling (Unit {0})} {A : Mentioning} {StopA : Unit {0} → Lexeme → Type 0}
    {b : Telling Y} {B : Y → Mentioning} {StopB : Y → Lexeme → Type 0}
    → IsTeller a (λ u. A) StopA → IsTeller b B StopB → Follows StopA (λ u. B) StopB
    → IsTeller (a ▷ b) (λ y. A ⊙ B y) StopB
skip_told {A = A} {b = b} {B = B} {StopB = StopB} first next follows =
    told_as (λ y. A ⊙ B y) (λ y ms ts l. l.1) (λ y ms ts l. (tt, l))
    (each_tells (λ u. b) (λ u. B) StopB first (λ u. next) follows)

-- dropped metadata, and the `{`
abbrev SpellsBrace : Unit {0} → Mentioning
SpellsBrace u = silent metadata_pairs ⊙ the_sign 123

brace_tells : IsTeller (silently pairs_at ▷ sign_at 123) SpellsBrace Anything
brace_tells = skip_told (silent_tells pairs_read) (sign_tells 123)
    (λ u y ms taken rest l stops. subst (λ (ts : List Lexeme). StopsAt (NoMetadata u) (ts ++ rest)) (sym l.1) refl)

pairs_end : (us vs : List Lexeme) → metadata_pairs us → punctuation 123 vs → begins ends_run (us ++ vs) ≡ true
pairs_end us vs none l = ap (begins ends_run) l
pairs_end us vs (more front behind parts first others) l =
    ap (begins ends_run) (ap (λ (us : List Lexeme). us ++ vs) (parts ∙ ap (λ (us : List Lexeme). us ++ behind)
    (first.2 ∙ ap (λ (us : List Lexeme). us ++ first.1) first.3.1)))
    ∙ metadata_ends first.3.0 first.3.2

brace_ends : (words : Run × List ℕ) (u : Unit {0}) (ms : List Mention) (taken rest : List Lexeme)
    → SpellsBrace u ms taken → StopsAt (StopsWords words) (taken ++ rest)
brace_ends words u ms taken rest l =
    ended_by words.0 taken rest (ap (begins ends_run) l.3.2 ∙ pairs_end l.3.0 l.3.1 l.3.3.1 l.3.4.1)

-- words, dropped metadata, and the `{`
abbrev pub SpellsOpening : Run × List ℕ → Mentioning
SpellsOpening words = silent (SpellsRunText words) ⊙ (silent metadata_pairs ⊙ the_sign 123)

pub opening_tells : IsTeller opening_at SpellsOpening Anything
unfolding opening_at
opening_tells = told_as SpellsOpening
    (λ words ms ts l. subst (λ (words : Run × List ℕ). SpellsOpening words ms ts) (sym l.1) l.2)
    (λ words ms ts l. ((words, tt), refl, l))
    (made_tells (λ p. p.0) Anything (λ p t stop. tt) (λ p t stop. tt)
    (both_told (silent_tells words_read) brace_tells
    (λ words u ms taken rest l stops. brace_ends words u ms taken rest l)))

-- ---- blocks

-- blocks, and the `}`
abbrev pub SpellsBlocks : List Block → Mentioning
SpellsBlocks blocks = InOrder SpellsBlock blocks ⊙ the_sign 125

-- one block or more, and the `}`
abbrev pub SpellsBody : Block × List Block → Mentioning
SpellsBody p = SpellsBlock p.0 ⊙ SpellsBlocks p.1

blocks_there : (ps : List (Block × List Mention)) (ts : List Lexeme)
    → (InSequence (Told SpellsBlock) ps · punctuation 125) ts → SpellsBlocks (gathered ps).0 (gathered ps).1 ts
blocks_there ps ts l = (
  (gathered ps).1,
  [],
  sym (append-nil (gathered ps).1),
  (l.0, l.1, l.2, in_order SpellsBlock ps l.0 l.3, (refl, l.4)),
)

blocks_back : (blocks : List Block) (ms : List Mention) (ts : List Lexeme) → SpellsBlocks blocks ms ts
    → (ps : List (Block × List Mention)) × ((blocks, ms) ≡ gathered ps)
    × (InSequence (Told SpellsBlock) ps · punctuation 125) ts
blocks_back blocks ms ts l =
    let found = from_order SpellsBlock blocks l.0 l.3.0 l.3.3 in (
      found.0,
      ap (λ (ms : List Mention). (blocks, ms))
          (l.2 ∙ (ap (λ (behind : List Mention). l.0 ++ behind) l.3.4.0 ∙ append-nil l.0))
          ∙ found.1,
      (l.3.0, l.3.1, l.3.2, found.2, l.3.4.1),
    )

module _ {Chain : Bool → Option Operation × Option Ending → List Mention → List Lexeme → Type 0}
    (calls : ReadsCalls Chain) where
  abbrev NoCommaBehind : Lexeme → Type 0
  NoCommaBehind t = is_punctuation 44 t ≡ false

  some_tokens : (block : Block) (ms : List Mention) → SpellsBlock block ms [] → ⊥
  some_tokens block ms l = let b = block_begins calls block ms [] l in let e = b.parts in cc

  no_closing : (block : Block) (ms : List Mention) (ts rest : List Lexeme) → SpellsBlock block ms ts
      → begins (is_punctuation 125) (ts ++ rest) ≡ false
  no_closing block ms ts rest l =
      let b = block_begins calls block ms ts l in
      ap (λ (ts : List Lexeme). begins (is_punctuation 125) (ts ++ rest)) b.parts ∙ b.no_end

  next_ends : (block : Block) (ms : List Mention) (ts rest : List Lexeme) → SpellsBlock block ms ts
      → StopsAt NoCommaBehind (ts ++ rest)
  next_ends block ms ts rest l =
      let b = block_begins calls block ms ts l in
      subst (λ (ts : List Lexeme). StopsAt NoCommaBehind (ts ++ rest)) (sym b.parts) b.no_comma

  blocks_tell : IsTeller blocks_at SpellsBlocks Anything
  unfolding blocks_at
  blocks_tell = gathered_tells SpellsBlocks blocks_there blocks_back
      (up_to_reads 125 (λ told t. NoCommaBehind t) (block_tells calls).reader
      (λ told l. some_tokens told.0 told.1 l)
      (λ told ts rest l. no_closing told.0 told.1 ts rest l)
      (λ told next ts rest l. next_ends next.0 next.1 ts rest l)
      (λ told t e. subst (λ (t : Lexeme). NoCommaBehind t) (sym (is_sign 125 t e)) refl))

  -- blocks begin with no comma, and nor does the `}`
  blocks_begin : (blocks : List Block) (ms : List Mention) (taken rest : List Lexeme) → SpellsBlocks blocks ms taken
      → StopsAt NoCommaBehind (taken ++ rest)
  blocks_begin [] ms taken rest l =
      subst (λ (ts : List Lexeme). StopsAt NoCommaBehind (ts ++ rest))
      (sym (l.3.2 ∙ (ap (λ (us : List Lexeme). us ++ l.3.1) l.3.3.1 ∙ l.3.4.1))) refl
  blocks_begin (block ∷ blocks) ms taken rest l =
      let first = l.3.3 in
      subst (λ (ts : List Lexeme). StopsAt NoCommaBehind ts)
      (sym (ap (λ (ts : List Lexeme). ts ++ rest)
      (l.3.2 ∙ (ap (λ (us : List Lexeme). us ++ l.3.1) first.3.2 ∙ append_assoc first.3.0 first.3.1 l.3.1))
      ∙ append_assoc first.3.0 (first.3.1 ++ l.3.1) rest))
      (next_ends block first.0 first.3.0 ((first.3.1 ++ l.3.1) ++ rest) first.3.3)

  pub body_tells : IsTeller (block_at ⊗ blocks_at) SpellsBody Anything
  body_tells = both_told (block_tells calls) blocks_tell
      (λ block blocks ms taken rest l stops. blocks_begin blocks ms taken rest l)
