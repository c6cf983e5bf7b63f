-- The lines of blocks are read: records, instructions with a name and without, and calls that are dropped.
use Rattle.std.proofs.Common.{◌≡◌, suc, Bool, true, false, List, [], ◌∷◌, ◌++◌, length, Option, Some, None, Err, ◌⊎◌, inl, inr, refl, ap, subst, ◌∙◌, IsTrue, codes}
use Rattle.scev_base.specs.declared.ids.ValueId.{ValueId}
use Rattle.ir_text.specs.declared.token.TokenKind.TheVariants.{Group}
use Rattle.ir_text.specs.Bytes.{is_letter, begins_word}
use Rattle.ir_text.specs.Names.{is_word}
use Rattle.ir_text.specs.Tokens.{Lexeme}
use Rattle.ir_text.specs.Listed.{local, sign}
use Rattle.ir_text.specs.Language.{Language, ◌·◌, one}
use Rattle.ir_text.specs.Written.{Name, Text, IsLocal}
use Rattle.ir_text.specs.Said.{said_local}
use Rattle.ir_text.specs.Mentions.{Mention, DefinesValue, Mentioning, ◌⊙◌, silent, defines_value}
use Rattle.ir_text.specs.PassedOn.{in_parentheses, attachments}
use Rattle.ir_grammar.specs.Operations.{the_sign}
use Rattle.ir_grammar.specs.Functions.{IsRecord}
use Rattle.ir_parts.specs.declared.ending.Ending.{Ending}
use Rattle.ir_parts.specs.Reading.{begins, ◌▷◌}
use Rattle.ir_parts.specs.WordsReading.{parentheses_at}
use Rattle.ir_parts.specs.MetadataReading.{attachments_at}
use Rattle.ir_parts.proofs.Readers.{IsReader, Anything, of_language, mapped, one_reads, chosen}
use Rattle.ir_parts.proofs.NoneGoesOn.{refused_there}
use Rattle.ir_parts.proofs.Combined.{behind_token}
use Rattle.ir_parts.proofs.MetadataReaders.{NoComma, single, parentheses_read, attachments_read}
use Rattle.ir_body.specs.declared.operation.Operation.{Operation}
use Rattle.ir_parts.proofs.SaidNames.{local_there, local_back}
use Rattle.ir_body.proofs.Tellers.{IsTeller, silent_tells, made_tells, both, skip, sign_tells}
use Rattle.ir_functions.specs.declared.lines.Line.{Line}
use Rattle.ir_functions.specs.Silent.{is_record, record_at}
use Rattle.ir_functions.specs.Lines.{record_line_at, told_definition, defined_at, is_local, named_line, named_line_at, numbered_line, operation_at, unnamed_line_at, line_at}
use Rattle.ir_functions.proofs.LineStarts.{EndsLines, record_there, record_back, record_ends, is_local_there, is_local_back, local_ends, local_no_record}
use Rattle.ir_functions.proofs.LineFacts.{StopsTail, ReadsCalls}
use Rattle.ir_functions.proofs.ChainTellers.{BeginsChain, SpellsChain, operation_tells, chain_begins}

-- ---- records

abbrev pub record_words : Language
record_words = one IsRecord · (in_parentheses · attachments)

a_record : IsRecord (record { kind = Group; text = codes "#a" })
unfolding is_word begins_word is_letter
a_record = (refl, codes "a", refl, refl)

behind_record : IsReader (parentheses_at ▷ attachments_at) (λ (x : Unit {0}). in_parentheses · attachments) NoComma
behind_record = behind_token parentheses_read attachments_read

record_reads : IsReader record_at (λ (x : Unit {0}). record_words) NoComma
unfolding record_at
record_reads = behind_token (single is_record IsRecord record_there record_back (record {
  kind = Group;
  text = codes "#a";
}) a_record) behind_record

-- a line that gives no instruction
abbrev pub empty_line : Line
empty_line = record { instr = None; tail = None }

abbrev pub SpellsRecordLine : Line → Mentioning
SpellsRecordLine line ms ts = (u : Unit {0}) × (line ≡ empty_line) × silent record_words ms ts

record_line_tells : IsTeller record_line_at SpellsRecordLine (λ line. StopsTail line.tail)
unfolding record_line_at
record_line_tells = made_tells (λ u. empty_line) (λ line. StopsTail line.tail) (λ u t stop. (stop, tt))
    (λ u t stop. stop.0) (silent_tells record_reads)

record_begins : (line : Line) (ms : List Mention) (ts : List Lexeme) → SpellsRecordLine line ms ts
    → begins is_record ts ≡ true
record_begins line ms ts l =
    let words = l.2.1 in
    ap (begins is_record) (words.2 ∙ ap (λ (us : List Lexeme). us ++ words.1) words.3.1)
    ∙ record_back words.3.0 words.3.2

record_begun : (t : Lexeme) (ts : List Lexeme) → is_record t ≡ true → record_line_at (t ∷ ts)
    ≡ Err (suc (length ts)) → ⊥
record_begun t ts passed e = refused_there record_line_tells.reader [] ts t e (record {
  whole = (empty_line, []);
  others = sample_others;
  sentence = (tt, refl, (refl, (t ∷ [], sample_others, refl, (t, refl, record_there t passed), behind_record.sample)));
})
  where
    sample_others : List Lexeme
    sample_others = behind_record.sentence

-- ---- names of values

-- the name of a value that is defined
abbrev pub SpellsDefined : ValueId → Mentioning
SpellsDefined v ms ts = (v.0 ≡ 0) × defines_value ms ts

pub defined_tells : IsTeller defined_at SpellsDefined Anything
unfolding defined_at is_word begins_word is_letter
defined_tells = record {
  reader = of_language (λ told ts. SpellsDefined told.0 told.1 ts) there back
      (one_reads (λ t. told_definition (said_local t)) (λ told t. told_definition (said_local t) ≡ Some told)
      (λ told t e. e) (λ told t e. e)
      (record { 0 = 0 }, DefinesValue (Some (Text (codes "a"))) ∷ []) (local (codes "a"))
      (ap told_definition
      (local_back (Text (codes "a")) (local (codes "a")) (refl, codes "a", refl, inl (is_a, refl)))));
}
  where
    is_a : IsTrue (is_word (codes "a"))
    is_a = refl

    of_said : (t : Lexeme) (said : Option Name) (told : ValueId × List Mention) (ts : List Lexeme) → ts ≡ t ∷ []
        → said_local t ≡ said → told_definition said ≡ Some told → SpellsDefined told.0 told.1 ts
    of_said t None told ts e is gives = absurd cc
    of_said t (Some name) told ts e is gives =
        let same : ◌≡◌ {A = ValueId × List Mention} (record { 0 = 0 }, DefinesValue (Some name) ∷ []) told = cc in
        subst (λ (told : ValueId × List Mention). SpellsDefined told.0 told.1 ts) same
        (refl, (name, (refl, (t, e, local_there name t is))))

    there : (told : ValueId × List Mention) (ts : List Lexeme)
        → one (λ t. told_definition (said_local t) ≡ Some told) ts
        → SpellsDefined told.0 told.1 ts
    there told ts l = of_said l.0 (said_local l.0) told ts l.1 refl l.2

    back : (told : ValueId × List Mention) (ts : List Lexeme) → SpellsDefined told.0 told.1 ts
        → one (λ t. told_definition (said_local t) ≡ Some told) ts
    back told ts l =
        (l.1.1.1.0, l.1.1.1.1, ap told_definition (local_back l.1.0 l.1.1.1.0 l.1.1.1.2) ∙ same told l.1.0 l.0 l.1.1.0)
      where
        same : (told : ValueId × List Mention) (name : Name) → told.0.0 ≡ 0 → told.1 ≡ DefinesValue (Some name) ∷ []
            → ◌≡◌ {A = Option (ValueId × List Mention)} (Some (record { 0 = 0 }, DefinesValue (Some name) ∷ []))
            (Some told)
        same told name is so = rw (is, so) refl

-- ---- lines

-- The tokens begin with one that ends every line.
pub record BeginsLine (ts : List Lexeme) : Type 0 where
  pub first : Lexeme
  pub others : List Lexeme
  pub parts : ts ≡ first ∷ others
  pub ends : EndsLines first

module _ {Chain : Bool → Option Operation × Option Ending → List Mention → List Lexeme → Type 0}
    (calls : ReadsCalls Chain) where
  -- `%name =` and what it defines
  abbrev pub SpellsNamedLine : Line → Mentioning
  SpellsNamedLine line ms ts = (p : ValueId × (Option Operation × Option Ending)) × (line ≡ named_line p)
      × (SpellsDefined p.0 ⊙ (the_sign 61 ⊙ SpellsChain calls true p.1)) ms ts

  -- what stands without a name
  abbrev pub SpellsUnnamedLine : Line → Mentioning
  SpellsUnnamedLine line ms ts = (told : (Option Operation × Option Ending) × List Mention)
      × ((line, ms) ≡ numbered_line told) × SpellsChain calls false told.0 told.1 ts

  abbrev pub SpellsAnyLine : Line → Mentioning
  SpellsAnyLine line ms ts = SpellsRecordLine line ms ts ⊎ (SpellsNamedLine line ms ts ⊎ SpellsUnnamedLine line ms ts)

  named_tells : IsTeller named_line_at SpellsNamedLine (λ line. StopsTail line.tail)
  unfolding named_line_at
  named_tells = made_tells named_line (λ line. StopsTail line.tail) (λ p t stop. stop) (λ p t stop. stop)
      (both defined_tells (skip (sign_tells 61) (operation_tells calls true)))

  unnamed_tells : IsTeller unnamed_line_at SpellsUnnamedLine (λ line. StopsTail line.tail)
  unfolding unnamed_line_at
  unnamed_tells = record {
    reader = mapped numbered_line (λ told t. StopsTail told.0.tail t) there back
        (operation_tells calls false).reader;
  }
    where
      there : (told : (Option Operation × Option Ending) × List Mention) (t : Lexeme) → StopsTail told.0.1 t
          → StopsTail (numbered_line told).0.tail t
      there ((None, tail), ms) t stop = stop
      there ((Some operation, tail), ms) t stop = stop

      back : (told : (Option Operation × Option Ending) × List Mention) (t : Lexeme)
          → StopsTail (numbered_line told).0.tail t → StopsTail told.0.1 t
      back ((None, tail), ms) t stop = stop
      back ((Some operation, tail), ms) t stop = stop

  -- ---- what they begin with

  -- a name stands first
  pub record BeginsNamed (ts : List Lexeme) : Type 0 where
    pub first : Lexeme
    pub others : List Lexeme
    pub parts : ts ≡ first ∷ others
    pub name : Name
    pub is : IsLocal name first

  named_begins : (line : Line) (ms : List Mention) (ts : List Lexeme) → SpellsNamedLine line ms ts → BeginsNamed ts
  named_begins line ms ts l =
      let parts = l.2.3 in
      let defined = parts.3.1 in
      record {
        first = defined.1.1.0;
        others = parts.1;
        parts = parts.2 ∙ ap (λ (us : List Lexeme). us ++ parts.1) defined.1.1.1;
        name = defined.0;
        is = defined.1.1.2;
      }

  unnamed_begins : (line : Line) (ms : List Mention) (ts : List Lexeme) → SpellsUnnamedLine line ms ts → BeginsChain ts
  unnamed_begins line ms ts l = chain_begins calls false l.0.0 l.0.1 ts l.2

  local_starts : (line : Line) (ms : List Mention) (ts : List Lexeme) → SpellsNamedLine line ms ts
      → begins is_local ts ≡ true
  local_starts line ms ts l =
      let b = named_begins line ms ts l in ap (begins is_local) b.parts ∙ is_local_back b.first b.name b.is

  no_local_starts : (line : Line) (ms : List Mention) (taken rest : List Lexeme) → SpellsUnnamedLine line ms taken
      → begins is_local (taken ++ rest) ≡ false
  no_local_starts line ms taken rest l =
      let b = unnamed_begins line ms taken l in
      ap (λ (ts : List Lexeme). begins is_local (ts ++ rest)) b.parts ∙ b.no_local

  no_record_starts : (line : Line) (ms : List Mention) (taken rest : List Lexeme)
      → SpellsNamedLine line ms taken ⊎ SpellsUnnamedLine line ms taken
      → begins is_record (taken ++ rest) ≡ false
  no_record_starts line ms taken rest (inl l) =
      let b = named_begins line ms taken l in
      ap (λ (ts : List Lexeme). begins is_record (ts ++ rest)) b.parts ∙ local_no_record b.first b.name b.is
  no_record_starts line ms taken rest (inr l) =
      let b = unnamed_begins line ms taken l in
      ap (λ (ts : List Lexeme). begins is_record (ts ++ rest)) b.parts ∙ b.no_record

  named_begun : (t : Lexeme) (ts : List Lexeme) → is_local t ≡ true → named_line_at (t ∷ ts)
      ≡ Err (suc (length ts)) → ⊥
  named_begun t ts passed e = refused_there named_tells.reader [] ts t e (record {
    whole = (named_line (id, sample.some.0), DefinesValue (Some name.0) ∷ sample.some.1);
    others = sign 61 ∷ sample.sentence;
    sentence = (
      (id, sample.some.0),
      refl,
      (
        DefinesValue (Some name.0) ∷ [],
        sample.some.1,
        refl,
        (
          t ∷ [],
          sign 61 ∷ sample.sentence,
          refl,
          (refl, (name.0, (refl, (t, refl, name.1)))),
          ([], sample.some.1, refl, (sign 61 ∷ [], sample.sentence, refl, (refl, refl), sample.sample)),
        ),
      ),
    );
  })
    where
      name : (name : Name) × IsLocal name t
      name = is_local_there t passed

      id : ValueId
      id = record { 0 = 0 }

      sample : IsReader (operation_at true)
          (λ (told : (Option Operation × Option Ending) × List Mention) ts.
          SpellsChain calls true told.0 told.1 ts)
          (λ told t. StopsTail told.0.1 t)
      sample = (operation_tells calls true).reader

  -- ---- the reading

  pub line_tells : IsTeller line_at SpellsAnyLine (λ line. StopsTail line.tail)
  unfolding line_at
  line_tells = record {
    reader = chosen is_record record_line_tells.reader
        (chosen is_local named_tells.reader unnamed_tells.reader
        (λ told ts l. local_starts told.0 told.1 ts l)
        (λ told taken rest l stops. no_local_starts told.0 told.1 taken rest l)
        named_begun)
        (λ told ts l. record_begins told.0 told.1 ts l)
        (λ told taken rest l stops. no_record_starts told.0 told.1 taken rest l)
        record_begun;
  }

  pub line_begins : (line : Line) (ms : List Mention) (ts : List Lexeme) → SpellsAnyLine line ms ts → BeginsLine ts
  line_begins line ms ts (inl l) =
      let words = l.2.1 in
      record {
        first = words.3.0;
        others = words.1;
        parts = words.2 ∙ ap (λ (us : List Lexeme). us ++ words.1) words.3.1;
        ends = record_ends words.3.0 words.3.2;
      }
  line_begins line ms ts (inr (inl l)) =
      let b = named_begins line ms ts l in
      record { first = b.first; others = b.others; parts = b.parts; ends = local_ends b.first b.name b.is }
  line_begins line ms ts (inr (inr l)) =
      let b = unnamed_begins line ms ts l in
      record { first = b.first; others = b.others; parts = b.parts; ends = b.ends }
