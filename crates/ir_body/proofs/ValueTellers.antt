-- Conversions and choices are read, from behind their opcode.
use Rattle.std.proofs.Common.{◌≡◌, ℕ, Bool, false, List, [], ◌∷◌, ◌++◌, refl, sym, ap, ◌∙◌, codes}
use Rattle.std.specs.Str.{bytes_eq}
use Rattle.std.proofs.lemmas.List.{append-nil}
use Rattle.ir_model.specs.declared.types.IrType.{IrType}
use Rattle.ir_model.specs.declared.op.Operand.{Operand}
use Rattle.ir_model.specs.declared.op.CastOp.{CastOp}
use Rattle.ir_model.specs.declared.op.CastOp.TheVariants as cast
use Rattle.ir_model.specs.declared.op.TypedOperand.{TypedOperand}
use Rattle.ir_model.specs.declared.op.Op.TheVariants.{Cast, Select}
use Rattle.ir_text.specs.Tokens.{Lexeme}
use Rattle.ir_text.specs.Language.{Language, ◌·◌, nothing}
use Rattle.ir_text.specs.Mentions.{Mention, Mentioning, ◌⊙◌, silent}
use Rattle.ir_model.specs.Kinds.{IsScalar}
use Rattle.ir_grammar.specs.Operations.{SpellsOperand, SpellsTyped, SpellsCastFlags, dropped_word, the_word, the_comma, the_type}
use Rattle.ir_parts.specs.Reading.{is_keyword, pure}
use Rattle.ir_parts.specs.Reading as reading
use Rattle.ir_parts.specs.TypeReading.{scalar_type_at}
use Rattle.ir_parts.proofs.Readers.{Anything}
use Rattle.ir_parts.proofs.Combined.{pure_reads}
use Rattle.ir_parts.proofs.TypeReaders.{scalar_types}
use Rattle.ir_body.specs.declared.operation.Operation.{Operation}
use Rattle.ir_body.specs.Telling.{Telling, ◌⊗◌, ◌▷◌, word_at, silently}
use Rattle.ir_body.specs.Flags.{dropped_at, cast_flags_at}
use Rattle.ir_body.specs.Operands.{typed_at}
use Rattle.ir_body.specs.Plain.{plain}
use Rattle.ir_body.specs.Values.{cast_at, select_at}
use Rattle.ir_body.proofs.Tellers.{IsTeller, IsMade, silent_tells, told_as, told_reading, skip, both, both_told, made_told, first_as, then_as, joined, parted, word_tells, sign_tells}
use Rattle.ir_body.proofs.OperandTellers.{operand_tells, typed_tells}
use Rattle.ir_body.proofs.Firsts.{BeginsNot, first_begins_not, type_begins_not}
use Rattle.ir_body.proofs.DroppedWords.{drop_tells, silently_behind, dropped_begins_not}
use Rattle.ir_body.proofs.FlagReaders.{flag_reads, flag_stops}

-- ---- conversions

-- an operand with its type, and the type that it is converted to
abbrev pub SpellsConverted : TypedOperand × IrType → Mentioning
SpellsConverted read = SpellsTyped read.0 ⊙ (the_word (codes "to") ⊙ the_type IsScalar read.1)

abbrev converted_at : Telling (TypedOperand × IrType)
converted_at = typed_at ⊗ word_at (codes "to") ▷ silently scalar_type_at

converted_tells : IsTeller converted_at SpellsConverted Anything
converted_tells = both typed_tells (skip (word_tells (codes "to")) (silent_tells scalar_types))

-- it begins with a type
converted_begins_not : (text : List ℕ) → ((digits : List ℕ) → bytes_eq (105 ∷ digits) text ≡ false)
    → bytes_eq (codes "ptr") text ≡ false
    → (read : TypedOperand × IrType) → BeginsNot (is_keyword text) (SpellsConverted read)
converted_begins_not text no_int no_ptr read = first_begins_not (is_keyword text)
    (first_begins_not (is_keyword text) (type_begins_not text no_int no_ptr read.0.kind))

abbrev pub SpellsCast : CastOp → Bool × (TypedOperand × IrType) → Mentioning
SpellsCast op read = silent (SpellsCastFlags op read.0) ⊙ SpellsConverted read.1

abbrev pub make_cast : CastOp → Bool × (TypedOperand × IrType) → Operation
make_cast op read = plain (Cast op read.0 read.1.0.kind read.1.0.value read.1.1)

-- the flags of `trunc`
abbrev trunc_words : Language
trunc_words = dropped_word (codes "nuw") · dropped_word (codes "nsw")

-- what was read of `trunc`, part for part
abbrev SpellsTruncated : Bool × (TypedOperand × IrType) → Mentioning
SpellsTruncated read = silent (dropped_word (codes "nuw")) ⊙ (silent (dropped_word (codes "nsw"))
    ⊙ (silent (λ ts. (read.0 ≡ false) × nothing ts) ⊙ SpellsConverted read.1))

trunc_there : (read : Bool × (TypedOperand × IrType)) (ms : List Mention) (ts : List Lexeme)
    → SpellsTruncated read ms ts → SpellsCast cast.Trunc read ms ts
trunc_there read ms ts l = first_as of_words ms ts (joined ms ts (then_as joined ms ts l))
  where
    of_words : (ms : List Mention) (ts : List Lexeme)
        → silent (dropped_word (codes "nuw") · (dropped_word (codes "nsw") · (λ ts. (read.0 ≡ false) × nothing ts)))
        ms ts
        → silent (SpellsCastFlags cast.Trunc read.0) ms ts
    of_words ms ts l =
        let second = l.1.4 in (
          l.0,
          (
            second.4.0,
            (
              l.1.0,
              second.0,
              l.1.2 ∙ ap (λ (vs : List Lexeme). l.1.0 ++ vs) (second.2
                  ∙ (ap (λ (vs : List Lexeme). second.0 ++ vs) second.4.1 ∙ append-nil second.0)),
              l.1.3,
              second.3,
            ),
          ),
        )

trunc_back : (read : Bool × (TypedOperand × IrType)) (ms : List Mention) (ts : List Lexeme)
    → SpellsCast cast.Trunc read ms ts → SpellsTruncated read ms ts
trunc_back read ms ts l = then_as parted ms ts (parted ms ts (first_as of_flags ms ts l))
  where
    of_flags : (ms : List Mention) (ts : List Lexeme) → silent (SpellsCastFlags cast.Trunc read.0) ms ts
        → silent (dropped_word (codes "nuw") · (dropped_word (codes "nsw") · (λ ts. (read.0 ≡ false) × nothing ts)))
        ms ts
    of_flags ms ts l =
        let words = l.1.1 in
        (l.0, (words.0, words.1, words.2, words.3, (words.1, [], sym (append-nil words.1), words.4, (l.1.0, refl))))

cast_parts_tell : (op : CastOp) → IsTeller (silently (cast_flags_at op) ⊗ converted_at) (SpellsCast op) Anything
unfolding cast_flags_at
cast_parts_tell cast.Zext = both_told (silent_tells (flag_reads (codes "nneg"))) converted_tells
    (λ nneg read ms taken rest l stops. flag_stops (codes "nneg") nneg (taken ++ rest)
    (converted_begins_not (codes "nneg") (λ digits. refl) refl read ms taken rest l))
cast_parts_tell cast.Sext = both (silent_tells (pure_reads false)) converted_tells
cast_parts_tell cast.Trunc = told_as (SpellsCast cast.Trunc) trunc_there trunc_back
    (told_reading (silently (cast_flags_at cast.Trunc) ⊗ converted_at)
    (silently_behind (dropped_at (codes "nuw")) (reading.◌▷◌ (dropped_at (codes "nsw")) (pure false)) converted_at)
    (drop_tells (codes "nuw")
    (told_reading (silently (reading.◌▷◌ (dropped_at (codes "nsw")) (pure false)) ⊗ converted_at)
    (silently_behind (dropped_at (codes "nsw")) (pure false) converted_at)
    (drop_tells (codes "nsw") (both (silent_tells (pure_reads false)) converted_tells)
    (λ read. nothing_begins_not (codes "nsw") (λ digits. refl) refl read)))
    (λ read. dropped_begins_not (codes "nsw") (codes "nuw") refl
    (nothing_begins_not (codes "nuw") (λ digits. refl) refl read))))
  where
    nothing_begins_not : (text : List ℕ) → ((digits : List ℕ) → bytes_eq (105 ∷ digits) text ≡ false)
        → bytes_eq (codes "ptr") text ≡ false
        → (read : Bool × (TypedOperand × IrType))
        → BeginsNot (is_keyword text) (silent (λ ts. (read.0 ≡ false) × nothing ts) ⊙ SpellsConverted read.1)
    nothing_begins_not text no_int no_ptr read ms taken rest l =
        rw (l.3.2, l.3.3.1.1) (converted_begins_not text no_int no_ptr read.1 l.1 l.3.1 rest l.3.4)

pub cast_tells : (op : CastOp) → IsTeller (cast_at op) (IsMade (make_cast op) (SpellsCast op)) Anything
unfolding cast_at
cast_tells op = made_told (make_cast op) (λ t. Unit {0}) (cast_parts_tell op)

-- ---- choices

abbrev pub SpellsSelect : Operand × (TypedOperand × TypedOperand) → Mentioning
SpellsSelect read = the_word (codes "i1") ⊙ (SpellsOperand read.0 ⊙ (the_comma ⊙ (SpellsTyped read.1.0
    ⊙ (the_comma ⊙ SpellsTyped read.1.1))))

abbrev pub make_select : Operand × (TypedOperand × TypedOperand) → Operation
make_select read = plain (Select read.0 read.1.0 read.1.1)

pub select_tells : IsTeller select_at (IsMade make_select SpellsSelect) Anything
unfolding select_at
select_tells = made_told make_select (λ t. Unit {0})
    (skip (word_tells (codes "i1")) (both operand_tells (skip (sign_tells 44) (both typed_tells (skip (sign_tells 44)
    typed_tells)))))
