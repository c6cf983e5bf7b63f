-- Blocks are read: a label, or none, and lines.
use Rattle.std.proofs.Common.{◌≡◌, suc, Bool, true, false, List, [], ◌∷◌, ◌++◌, length, Option, Some, None, Err, ◌⊎◌, inl, inr, refl, sym, ap, subst, ◌∙◌, IsTrue, codes}
use Rattle.std.specs.Option.{is_some}
use Rattle.scev_base.specs.declared.ids.BlockId.{BlockId}
use Rattle.ir_model.specs.declared.function.Instr.{Instr}
use Rattle.ir_model.specs.declared.function.Block.{Block}
use Rattle.ir_text.specs.Bytes.{is_letter, begins_word}
use Rattle.ir_text.specs.Names.{is_word}
use Rattle.ir_text.specs.Tokens.{Lexeme}
use Rattle.ir_text.specs.Listed.{label}
use Rattle.ir_text.specs.Language.{one}
use Rattle.ir_text.specs.Written.{Name, Text, IsLabel}
use Rattle.ir_text.specs.Said.{said_label}
use Rattle.ir_text.specs.Mentions.{Mention, DefinesBlock, Mentioning, ◌⊙◌, defines_block, unwritten}
use Rattle.ir_grammar.specs.Functions.{SpellsBlock}
use Rattle.ir_parts.specs.declared.ending.Ending.{Ending}
use Rattle.ir_parts.specs.Reading.{begins, is_punctuation, choose}
use Rattle.ir_parts.proofs.Readers.{IsReader, Anything, of_language, of_reading, one_reads, chosen}
use Rattle.ir_parts.proofs.NoneGoesOn.{refused_there}
use Rattle.ir_parts.proofs.Combined.{pure_reads}
use Rattle.ir_parts.proofs.SaidNames.{label_there, label_back}
use Rattle.ir_body.specs.declared.operation.Operation.{Operation}
use Rattle.ir_body.specs.Telling.{Telling, ◌⊗◌, made}
use Rattle.ir_body.proofs.Tellers.{IsTeller, IsMade, told_as, told_reading, both, made_told}
use Rattle.ir_functions.specs.declared.lines.Line.{Line}
use Rattle.ir_functions.specs.Lines.{lines_at, instrs_at, instrs_of}
use Rattle.ir_functions.specs.Functions.{told_label, label_at, no_label_at, is_label, block_name_at, block_at}
use Rattle.ir_functions.proofs.LineFacts.{ReadsCalls}
use Rattle.ir_functions.proofs.SameReadings.{made_same, made_made, then_made}
use Rattle.ir_functions.proofs.LineTellers.{BeginsLine, line_begins}
use Rattle.ir_functions.proofs.LinesTellers.{SpellsLines, LinesOf, lines_tell, lines_say, are_lines}

-- ---- labels

abbrev pub SpellsLabel : BlockId → Mentioning
SpellsLabel id ms ts = (id.0 ≡ 0) × defines_block ms ts

abbrev pub NoLabel : BlockId → Mentioning
NoLabel id ms ts = (id.0 ≡ 0) × unwritten (DefinesBlock None) ms ts

label_tells : IsTeller label_at SpellsLabel Anything
unfolding label_at is_word begins_word is_letter
label_tells = record {
  reader = of_language (λ told ts. SpellsLabel told.0 told.1 ts) there back
      (one_reads (λ t. told_label (said_label t)) (λ told t. told_label (said_label t) ≡ Some told)
      (λ told t e. e) (λ told t e. e)
      (record { 0 = 0 }, DefinesBlock (Some (Text (codes "a"))) ∷ []) (label (codes "a"))
      (ap told_label (label_back (Text (codes "a")) (label (codes "a")) (refl, codes "a", refl, inl (is_a, refl)))));
}
  where
    is_a : IsTrue (is_word (codes "a"))
    is_a = refl

    of_said : (t : Lexeme) (said : Option Name) (told : BlockId × List Mention) (ts : List Lexeme) → ts ≡ t ∷ []
        → said_label t ≡ said → told_label said ≡ Some told → SpellsLabel told.0 told.1 ts
    of_said t None told ts e is gives = absurd cc
    of_said t (Some name) told ts e is gives =
        let same : ◌≡◌ {A = BlockId × List Mention} (record { 0 = 0 }, DefinesBlock (Some name) ∷ []) told = cc in
        subst (λ (told : BlockId × List Mention). SpellsLabel told.0 told.1 ts) same
        (refl, (name, (refl, (t, e, label_there name t is))))

    there : (told : BlockId × List Mention) (ts : List Lexeme) → one (λ t. told_label (said_label t) ≡ Some told) ts
        → SpellsLabel told.0 told.1 ts
    there told ts l = of_said l.0 (said_label l.0) told ts l.1 refl l.2

    back : (told : BlockId × List Mention) (ts : List Lexeme) → SpellsLabel told.0 told.1 ts
        → one (λ t. told_label (said_label t) ≡ Some told) ts
    back told ts l =
        (l.1.1.1.0, l.1.1.1.1, ap told_label (label_back l.1.0 l.1.1.1.0 l.1.1.1.2) ∙ same told l.1.0 l.0 l.1.1.0)
      where
        same : (told : BlockId × List Mention) (name : Name) → told.0.0 ≡ 0 → told.1 ≡ DefinesBlock (Some name) ∷ []
            → ◌≡◌ {A = Option (BlockId × List Mention)} (Some (record { 0 = 0 }, DefinesBlock (Some name) ∷ []))
            (Some told)
        same told name is so = rw (is, so) refl

no_label_tells : IsTeller no_label_at NoLabel Anything
unfolding no_label_at
no_label_tells = record {
  reader = of_language (λ told ts. NoLabel told.0 told.1 ts)
      (λ told ts l. (
        ap (λ (p : BlockId × List Mention). p.0.0) l.0,
        (ap (λ (p : BlockId × List Mention). p.1) l.0, l.1),
      ))
      (λ told ts l. (same told l.0 l.1.0, l.1.1))
      (pure_reads (record { 0 = 0 }, DefinesBlock None ∷ []));
}
  where
    same : (told : BlockId × List Mention) → told.0.0 ≡ 0 → told.1 ≡ DefinesBlock None ∷ []
        → told ≡ (record { 0 = 0 }, DefinesBlock None ∷ [])
    same told is so = rw (is, so) refl

is_label_back : (t : Lexeme) (name : Name) → IsLabel name t → is_label t ≡ true
is_label_back t name is = ap is_some (label_back name t is)

labelled : (t : Lexeme) (said : Option Name) → said_label t ≡ said → is_some said ≡ true
    → (name : Name) × IsLabel name t
labelled t None is e = absurd cc
labelled t (Some name) is e = (name, label_there name t is)

-- ---- a choice before what stands behind both

choice_first : {A B : Type 0} (test : Lexeme → Bool) (there other : Telling A) (next : Telling B) (ts : List Lexeme)
    → (choose test there other ⊗ next) ts ≡ choose test (there ⊗ next) (other ⊗ next) ts
choice_first {A} {B} test there other next ts = of (begins test ts) refl
  where
    of : (b : Bool) → begins test ts ≡ b
        → (choose test there other ⊗ next) ts ≡ choose test (there ⊗ next) (other ⊗ next) ts
    of true e = rw e refl
    of false e = rw e refl

-- ---- blocks

-- The tokens begin with one that stops every list, and that closes no function.
pub record BeginsBlock (ts : List Lexeme) : Type 0 where
  pub first : Lexeme
  pub others : List Lexeme
  pub parts : ts ≡ first ∷ others
  pub no_comma : is_punctuation 44 first ≡ false
  pub no_end : is_punctuation 125 first ≡ false

module _ {Chain : Bool → Option Operation × Option Ending → List Mention → List Lexeme → Type 0}
    (calls : ReadsCalls Chain) where
  abbrev NoCommaBehind : BlockId × List Line → Lexeme → Type 0
  NoCommaBehind p t = is_punctuation 44 t ≡ false

  abbrev SpellsLabelled : BlockId × List Line → Mentioning
  SpellsLabelled p = SpellsLabel p.0 ⊙ SpellsLines calls p.1

  abbrev SpellsUnlabelled : BlockId × List Line → Mentioning
  SpellsUnlabelled p = NoLabel p.0 ⊙ SpellsLines calls p.1

  labelled_tells : IsTeller (label_at ⊗ lines_at) SpellsLabelled NoCommaBehind
  labelled_tells = both label_tells (lines_tell calls)

  unlabelled_tells : IsTeller (no_label_at ⊗ lines_at) SpellsUnlabelled NoCommaBehind
  unlabelled_tells = both no_label_tells (lines_tell calls)

  -- what lines begin with
  lines_begin : (lines : List Line) (ms : List Mention) (ts : List Lexeme) → SpellsLines calls lines ms ts
      → BeginsLine ts
  lines_begin [] ms ts l = absurd l
  lines_begin (line ∷ []) ms ts l = line_begins calls line ms ts l.1
  lines_begin (line ∷ next ∷ more) ms ts l =
      let m = l.1 in
      let b = line_begins calls line m.0 m.3.0 m.3.3 in
      record {
        first = b.first;
        others = b.others ++ m.3.1;
        parts = m.3.2 ∙ ap (λ (us : List Lexeme). us ++ m.3.1) b.parts;
        ends = b.ends;
      }

  label_first : (p : BlockId × List Line) (ms : List Mention) (ts : List Lexeme) → SpellsLabelled p ms ts
      → (t : Lexeme) × (others : List Lexeme) × (ts ≡ t ∷ others) × (name : Name) × IsLabel name t
  label_first p ms ts l =
      let said = l.3.3.1 in (
        said.1.1.0,
        l.3.1,
        l.3.2 ∙ ap (λ (us : List Lexeme). us ++ l.3.1) said.1.1.1,
        said.0,
        said.1.1.2,
      )

  line_first : (p : BlockId × List Line) (ms : List Mention) (ts : List Lexeme) → SpellsUnlabelled p ms ts
      → BeginsLine ts
  line_first p ms ts l =
      let b = lines_begin p.1 l.1 l.3.1 l.3.4 in
      record {
        first = b.first;
        others = b.others;
        parts = l.3.2 ∙ (ap (λ (us : List Lexeme). us ++ l.3.1) l.3.3.1.1 ∙ b.parts);
        ends = b.ends;
      }

  starts_label : (p : BlockId × List Line) (ms : List Mention) (ts : List Lexeme) → SpellsLabelled p ms ts
      → begins is_label ts ≡ true
  starts_label p ms ts l =
      let f = label_first p ms ts l in ap (begins is_label) f.2 ∙ is_label_back f.0 f.3 f.4

  starts_no_label : (p : BlockId × List Line) (ms : List Mention) (taken rest : List Lexeme)
      → SpellsUnlabelled p ms taken → begins is_label (taken ++ rest) ≡ false
  starts_no_label p ms taken rest l =
      let b = line_first p ms taken l in
      ap (λ (ts : List Lexeme). begins is_label (ts ++ rest)) b.parts ∙ b.ends.no_label

  label_begun : (t : Lexeme) (ts : List Lexeme) → is_label t ≡ true
      → (label_at ⊗ lines_at) (t ∷ ts) ≡ Err (suc (length ts)) → ⊥
  label_begun t ts passed e = refused_there labelled_tells.reader [] ts t e (record {
    whole = ((id, sample.some.0), DefinesBlock (Some name.0) ∷ sample.some.1);
    others = sample.sentence;
    sentence = (
      DefinesBlock (Some name.0) ∷ [],
      sample.some.1,
      refl,
      (t ∷ [], sample.sentence, refl, (refl, (name.0, (refl, (t, refl, name.1)))), sample.sample),
    );
  })
    where
      name : (name : Name) × IsLabel name t
      name = labelled t (said_label t) refl passed

      id : BlockId
      id = record { 0 = 0 }

      sample : IsReader lines_at
          (λ (told : List Line × List Mention) ts. SpellsLines calls told.0 told.1 ts)
          (λ told t. is_punctuation 44 t ≡ false)
      sample = (lines_tell calls).reader

  -- a block, by its lines
  abbrev SpellsByLines : BlockId × List Line → Mentioning
  SpellsByLines p ms ts = SpellsLabelled p ms ts ⊎ SpellsUnlabelled p ms ts

  by_lines : IsTeller (block_name_at ⊗ lines_at) SpellsByLines NoCommaBehind
  unfolding block_name_at
  by_lines = record {
    reader = of_reading (block_name_at ⊗ lines_at)
        (λ ts. choice_first is_label label_at no_label_at lines_at ts)
        (chosen is_label labelled_tells.reader unlabelled_tells.reader
        (λ told ts l. starts_label told.0 told.1 ts l)
        (λ told taken rest l stops. starts_no_label told.0 told.1 taken rest l)
        label_begun);
  }

  abbrev block_of : BlockId × List Line → Block
  block_of p = record { id = p.0; instrs = instrs_of p.1 }

  block_there : (p : BlockId × List Line) (ms : List Mention) (ts : List Lexeme) → SpellsByLines p ms ts
      → SpellsBlock (block_of p) ms ts
  block_there p ms ts (inl l) = (
    l.0,
    l.1,
    l.2,
    (l.3.0, l.3.1, l.3.2, (l.3.3.0, inl l.3.3.1), lines_say calls p.1 l.1 l.3.1 l.3.4),
  )
  block_there p ms ts (inr l) = (
    l.0,
    l.1,
    l.2,
    (l.3.0, l.3.1, l.3.2, (l.3.3.0, inr l.3.3.1), lines_say calls p.1 l.1 l.3.1 l.3.4),
  )

  block_back : (block : Block) (ms : List Mention) (ts : List Lexeme) → SpellsBlock block ms ts
      → IsMade block_of SpellsByLines block ms ts
  block_back block ms ts (before, behind, whole, (us, vs, parts, (id, named), l)) =
      let m = are_lines calls block.instrs behind vs l in (
        (block.id, m.lines),
        ap (λ (instrs : List Instr). let block : Block = record { id = block.id; instrs = instrs } in block)
            (sym m.same),
        of_name named m,
      )
    where
      of_name : defines_block before us ⊎ unwritten (DefinesBlock None) before us
          → (m : LinesOf calls block.instrs behind vs) → SpellsByLines (block.id, m.lines) ms ts
      of_name (inl said) m = inl (before, behind, whole, (us, vs, parts, (id, said), m.spelled))
      of_name (inr none) m = inr (before, behind, whole, (us, vs, parts, (id, none), m.spelled))

  abbrev named_block : BlockId × List Instr → Block
  named_block p = record { id = p.0; instrs = p.1 }

  abbrev with_instrs : BlockId × List Line → BlockId × List Instr
  with_instrs p = (p.0, instrs_of p.1)

  same_block : (ts : List Lexeme) → block_at ts ≡ made block_of (block_name_at ⊗ lines_at) ts
  unfolding block_at instrs_at
  same_block ts =
      made_same named_block (block_name_at ⊗ instrs_at) (made with_instrs (block_name_at ⊗ lines_at))
      (then_made instrs_of block_name_at lines_at) ts
      ∙ made_made named_block with_instrs (block_name_at ⊗ lines_at) ts

  pub block_tells : IsTeller block_at SpellsBlock (λ block t. is_punctuation 44 t ≡ false)
  block_tells = told_reading block_at same_block
      (told_as SpellsBlock
      (λ block ms ts l. subst (λ (block : Block). SpellsBlock block ms ts) (sym l.1) (block_there l.0 ms ts l.2))
      block_back
      (made_told block_of (λ t. is_punctuation 44 t ≡ false) by_lines))

  -- ---- what blocks begin with

  by_lines_begin : (p : BlockId × List Line) (ms : List Mention) (ts : List Lexeme) → SpellsByLines p ms ts
      → BeginsBlock ts
  by_lines_begin p ms ts (inl l) =
      let f = label_first p ms ts l in
      record {
        first = f.0;
        others = f.1;
        parts = f.2;
        no_comma = rw f.4.0 refl;
        no_end = rw f.4.0 refl;
      }
  by_lines_begin p ms ts (inr l) =
      let b = line_first p ms ts l in
      record {
        first = b.first;
        others = b.others;
        parts = b.parts;
        no_comma = b.ends.no_comma;
        no_end = b.ends.no_end;
      }

  pub block_begins : (block : Block) (ms : List Mention) (ts : List Lexeme) → SpellsBlock block ms ts → BeginsBlock ts
  block_begins block ms ts l = let m = block_back block ms ts l in by_lines_begin m.0 ms ts m.2
