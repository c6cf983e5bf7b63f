-- Operations on memory are read, from behind their opcode, with the attachments behind them.
use Rattle.std.proofs.Common.{◌≡◌, ℕ, true, false, List, [], ◌∷◌, ◌++◌, Some, inl, inr, refl, sym, ap, ◌∙◌, codes, arith}
use Rattle.std.proofs.lemmas.List.{append-nil}
use Rattle.ir_model.specs.declared.types.IrType.{IrType}
use Rattle.ir_model.specs.declared.op.Operand.{Operand}
use Rattle.ir_model.specs.declared.op.Op.TheVariants.{Alloca, Load, Store}
use Rattle.ir_text.specs.declared.token.TokenKind.{TokenKind}
use Rattle.ir_text.specs.declared.token.TokenKind.TheVariants.{Numeral}
use Rattle.ir_text.specs.Tokens.{Lexeme}
use Rattle.ir_text.specs.Listed.{word, sign}
use Rattle.ir_text.specs.Language.{Language, ◌·◌, one}
use Rattle.ir_text.specs.PassedOn.{spaced, passed_text, attachments}
use Rattle.ir_text.specs.Mentions.{Mentioning, ◌⊙◌, silent}
use Rattle.ir_model.specs.Kinds.{IsInt, IsStored}
use Rattle.ir_grammar.specs.Operations.{SpellsOperand, SpellsPointer, SpellsAlign, alignment, the_comma, the_type}
use Rattle.ir_parts.specs.Reading.{begins}
use Rattle.ir_parts.specs.TypeReading.{is_numeral_kind}
use Rattle.ir_parts.specs.MetadataReading.{is_metadata}
use Rattle.ir_parts.proofs.Readers.{IsReader, Anything, of_language, mapped, one_reads}
use Rattle.ir_parts.proofs.Combined.{behind_token}
use Rattle.ir_parts.proofs.SingleTokens.{keyword_reads}
use Rattle.ir_parts.proofs.TypeReaders.{int_types, stored_types, if_some}
use Rattle.ir_parts.proofs.MetadataReaders.{NoComma}
use Rattle.ir_parts.proofs.PartsReader.{AtMost, parts_read}
use Rattle.ir_body.specs.declared.operation.Operation.{Operation}
use Rattle.ir_body.specs.Telling.{silently}
use Rattle.ir_body.specs.Aligned.{numeral_of, numeral_at, align_text, align_at, text_of_parts, alignment_at, aligned, alloca_at, load_at, store_at}
use Rattle.ir_body.proofs.Tellers.{IsTeller, IsMade, silent_tells, skip, both, made_told, sign_tells}
use Rattle.ir_body.proofs.OperandTellers.{operand_tells, pointer_tells}

-- ---- alignments

-- a numeral with this text
abbrev HasText : List ℕ → Lexeme → Type 0
HasText text t = (t.kind ≡ Numeral) × (t.text ≡ text)

numeral_reads : IsReader numeral_at (λ text. one (HasText text)) Anything
unfolding numeral_at
numeral_reads = one_reads numeral_of HasText there (λ text t is. rw is.0 (ap (λ (text : List ℕ). Some text) is.1))
    (codes "1") (record { kind = Numeral; text = codes "1" }) (refl, refl)
  where
    of_kind : (kind : TokenKind) → is_numeral_kind kind ≡ true → kind ≡ Numeral
    of_kind Numeral e = refl
    of_kind _ e = absurd cc

    there : (text : List ℕ) (t : Lexeme) → numeral_of t ≡ Some text → HasText text t
    there text t e = let parts = if_some (is_numeral_kind t.kind) (Some t.text) text e in
        (of_kind t.kind parts.0, let same : t.text ≡ text = let is = parts.1 in cc in same)

-- the text of `align` and a numeral
passed_align : (kind : TokenKind) (text : List ℕ) → kind ≡ Numeral
    → align_text text ≡ passed_text (word (codes "align") ∷ record { kind = kind; text = text } ∷ [])
unfolding spaced
passed_align kind text e = rw e refl

abbrev pub IsAlignment : List ℕ → Language
IsAlignment text ts = alignment ts × (text ≡ passed_text ts)

align_reads : IsReader align_at IsAlignment Anything
unfolding align_at
align_reads = of_language IsAlignment
    (λ text ts l.
    let numeral = l.2.4 in (
      (l.2.0, l.2.1, l.2.2, l.2.3, (numeral.0, numeral.1, numeral.2.0)),
      l.1 ∙ (ap align_text (sym numeral.2.1)
          ∙ (passed_align numeral.0.kind numeral.0.text numeral.2.0
          ∙ ap passed_text (sym (whole ts l.2.0 l.2.1 numeral.0 l.2.2 l.2.3 numeral.1)))),
    ))
    (λ text ts l.
    let numeral = l.0.4 in (
      numeral.0.text,
      l.1 ∙ (ap passed_text (whole ts l.0.0 l.0.1 numeral.0 l.0.2 l.0.3 numeral.1)
          ∙ sym (passed_align numeral.0.kind numeral.0.text numeral.2)),
      (l.0.0, l.0.1, l.0.2, l.0.3, (numeral.0, numeral.1, (numeral.2, refl))),
    ))
    (mapped align_text Anything (λ x t stop. tt) (λ x t stop. tt)
    (behind_token (keyword_reads (codes "align")) numeral_reads))
  where
    whole : (ts us vs : List Lexeme) (t : Lexeme) → ts ≡ us ++ vs → us ≡ word (codes "align") ∷ [] → vs ≡ t ∷ []
        → ts ≡ word (codes "align") ∷ t ∷ []
    whole ts us vs t e first second = rw (e, first, second) refl

-- an alignment or none, and attachments
abbrev pub SpellsAlignment : List ℕ → Language
SpellsAlignment text = SpellsAlign text · attachments

pub alignment_reads : IsReader alignment_at SpellsAlignment (λ text. NoComma tt)
unfolding alignment_at
alignment_reads = of_language SpellsAlignment there back
    (mapped text_of_parts (λ text. NoComma tt) (λ xs t stop. stop) (λ xs t stop. stop)
    (parts_read align_reads no_metadata 1))
  where
    no_metadata : (text : List ℕ) (ts rest : List Lexeme) → IsAlignment text ts
        → begins is_metadata (ts ++ rest) ≡ false
    no_metadata text ts rest l = rw (l.0.2, l.0.3) refl

    of_parts : (xs : List (List ℕ)) (text : List ℕ) (ts : List Lexeme) → text ≡ text_of_parts xs
        → AtMost IsAlignment 1 xs ts → SpellsAlignment text ts
    of_parts [] text ts e l = (l.1.0, l.1.1, l.1.2, inl (e, l.1.3), l.1.4)
    of_parts (x ∷ []) text ts e l =
        let part = l.1.3 in
        let found = part.3 in (
          l.1.0,
          l.1.1,
          l.1.2,
          inr (
            found.1,
            part.2 ∙ (ap (λ (vs : List Lexeme). part.0 ++ vs) part.4 ∙ (append-nil part.0
                ∙ (found.2 ∙ ap (λ (us : List Lexeme). us ++ found.1) found.3))),
            found.4.0,
            e ∙ found.4.1,
          ),
          l.1.4,
        )
    of_parts (x ∷ y ∷ more) text ts e l = absurd (omega (arith, l.0))

    there : (text : List ℕ) (ts : List Lexeme)
        → (xs : List (List ℕ)) × (text ≡ text_of_parts xs) × AtMost IsAlignment 1 xs ts → SpellsAlignment text ts
    there text ts l = of_parts l.0 text ts l.1 l.2

    to_parts : (text : List ℕ) (ts us vs : List Lexeme) → ts ≡ us ++ vs → SpellsAlign text us → attachments vs
        → (xs : List (List ℕ)) × (text ≡ text_of_parts xs) × AtMost IsAlignment 1 xs ts
    to_parts text ts us vs e (inl l) behind = ([], l.0, (omega arith, (us, vs, e, l.1, behind)))
    to_parts text ts us vs e (inr l) behind = (
      text ∷ [],
      refl,
      (
        omega arith,
        (us, vs, e, (us, [], sym (append-nil us), (sign 44 ∷ [], l.0, l.1, refl, (l.2, l.3)), refl), behind),
      ),
    )

    back : (text : List ℕ) (ts : List Lexeme) → SpellsAlignment text ts
        → (xs : List (List ℕ)) × (text ≡ text_of_parts xs) × AtMost IsAlignment 1 xs ts
    back text ts l = to_parts text ts l.0 l.1 l.2 l.3 l.4

alignment_tells : IsTeller (silently alignment_at) (λ text. silent (SpellsAlignment text)) (λ text. NoComma tt)
alignment_tells = silent_tells alignment_reads

-- ---- the operations

abbrev pub SpellsAlloca : IrType × List ℕ → Mentioning
SpellsAlloca read = the_type IsStored read.0 ⊙ silent (SpellsAlignment read.1)

abbrev pub make_alloca : IrType × List ℕ → Operation
make_alloca read = aligned (Alloca read.0) read.1

pub alloca_tells : IsTeller alloca_at (IsMade make_alloca SpellsAlloca) (λ operation. NoComma tt)
unfolding alloca_at
alloca_tells = made_told make_alloca (NoComma tt) (both (silent_tells stored_types) alignment_tells)

abbrev pub SpellsLoad : IrType × (Operand × List ℕ) → Mentioning
SpellsLoad read = the_type IsInt read.0 ⊙ (the_comma ⊙ (SpellsPointer read.1.0 ⊙ silent (SpellsAlignment read.1.1)))

abbrev pub make_load : IrType × (Operand × List ℕ) → Operation
make_load read = aligned (Load read.0 read.1.0) read.1.1

pub load_tells : IsTeller load_at (IsMade make_load SpellsLoad) (λ operation. NoComma tt)
unfolding load_at
load_tells = made_told make_load (NoComma tt)
    (both (silent_tells int_types) (skip (sign_tells 44) (both pointer_tells alignment_tells)))

abbrev pub SpellsStore : IrType × (Operand × (Operand × List ℕ)) → Mentioning
SpellsStore read = the_type IsInt read.0 ⊙ (SpellsOperand read.1.0 ⊙ (the_comma ⊙ (SpellsPointer read.1.1.0
    ⊙ silent (SpellsAlignment read.1.1.1))))

abbrev pub make_store : IrType × (Operand × (Operand × List ℕ)) → Operation
make_store read = aligned (Store read.0 read.1.0 read.1.1.0) read.1.1.1

pub store_tells : IsTeller store_at (IsMade make_store SpellsStore) (λ operation. NoComma tt)
unfolding store_at
store_tells = made_told make_store (NoComma tt)
    (both (silent_tells int_types) (both operand_tells (skip (sign_tells 44) (both pointer_tells alignment_tells))))
