-- Operations with a list behind commas are read, from behind their opcode, with the attachments behind them.
use Rattle.std.proofs.Common.{Bool, List, ◌∷◌, ◌++◌, refl, ap, ◌∙◌, append_assoc, codes}
use Rattle.ir_model.specs.declared.types.IrType.{IrType}
use Rattle.ir_model.specs.declared.op.Operand.{Operand}
use Rattle.ir_model.specs.declared.op.PhiEntry.{PhiEntry}
use Rattle.ir_model.specs.declared.op.TypedOperand.{TypedOperand}
use Rattle.ir_model.specs.declared.op.Op.TheVariants.{Gep, Phi}
use Rattle.ir_text.specs.Tokens.{Lexeme}
use Rattle.ir_text.specs.Mentions.{Mention, Mentioning, ◌⊙◌, silent, InOrder}
use Rattle.ir_text.specs.PassedOn.{attachments}
use Rattle.ir_model.specs.Kinds.{IsScalar, IsStored}
use Rattle.ir_grammar.specs.Operations.{SpellsTyped, SpellsPointer, SpellsGepFlags, SpellsEntry, the_comma, the_type}
use Rattle.ir_parts.specs.Reading.{begins, is_keyword}
use Rattle.ir_parts.specs.MetadataReading.{is_metadata}
use Rattle.ir_parts.proofs.Readers.{Anything}
use Rattle.ir_parts.proofs.TypeReaders.{scalar_types, stored_types}
use Rattle.ir_parts.proofs.MetadataReaders.{NoComma}
use Rattle.ir_parts.proofs.PartsReader.{all_parts_read}
use Rattle.ir_body.specs.declared.operation.Operation.{Operation}
use Rattle.ir_body.specs.Plain.{plain}
use Rattle.ir_body.specs.Lists.{indices_at, gep_at, entry_at, entries_at, phi_at}
use Rattle.ir_body.proofs.Tellers.{IsTeller, IsMade, silent_tells, skip, both, kept, made_told, made_whole, sign_tells}
use Rattle.ir_body.proofs.OperandTellers.{operand_tells, block_name_tells, typed_tells, pointer_tells}
use Rattle.ir_body.proofs.Firsts.{first_begins_not}
use Rattle.ir_body.proofs.FlagTellers.{gep_flags_tell}
use Rattle.ir_body.proofs.TypeFirst.{scalar_no_metadata, stored_begins_not, inbounds_apart}
use Rattle.ir_body.proofs.GatheredTellers.{BehindComma, gathered_tells, parts_there, parts_back}

-- things each behind a comma, and attachments
abbrev pub WithParts : {A : Type 0} → (A → List Mention → List Lexeme → Type 0) → List A → Mentioning
WithParts P xs = InOrder (BehindComma P) xs ⊙ silent attachments

-- ---- addresses of elements

pub indices_tell : IsTeller indices_at (WithParts SpellsTyped) (λ indices. NoComma tt)
unfolding indices_at
indices_tell = gathered_tells (WithParts SpellsTyped) (parts_there SpellsTyped attachments)
    (parts_back SpellsTyped attachments)
    (all_parts_read typed_tells.reader (λ told ts rest l.
    ap (λ (ts : List Lexeme). begins is_metadata (ts ++ rest)) l.3.2
    ∙ (ap (begins is_metadata) (append_assoc l.3.0 l.3.1 rest)
    ∙ scalar_no_metadata told.0.kind l.3.0 (l.3.1 ++ rest) l.3.3.1)))

abbrev pub SpellsGep : Bool × (IrType × (Operand × List TypedOperand)) → Mentioning
SpellsGep read = silent (SpellsGepFlags read.0) ⊙ (the_type IsStored read.1.0 ⊙ (the_comma
    ⊙ (SpellsPointer read.1.1.0 ⊙ WithParts SpellsTyped read.1.1.1)))

abbrev pub make_gep : Bool × (IrType × (Operand × List TypedOperand)) → Operation
make_gep read = plain (Gep read.0 read.1.0 read.1.1.0 read.1.1.1)

pub gep_tells : IsTeller gep_at (IsMade make_gep SpellsGep) (λ operation. NoComma tt)
unfolding gep_at
gep_tells = made_told make_gep (NoComma tt)
    (gep_flags_tell (both (silent_tells stored_types) (skip (sign_tells 44) (both pointer_tells indices_tell)))
    (λ read. (
      first_begins_not (is_keyword (codes "inbounds")) (stored_begins_not (codes "inbounds") inbounds_apart read.0),
      (
        first_begins_not (is_keyword (codes "nuw")) (stored_begins_not (codes "nuw") (λ digits all. refl) read.0),
        (
          first_begins_not (is_keyword (codes "nusw"))
              (stored_begins_not (codes "nusw") (λ digits all. refl) read.0),
          tt,
        ),
      ),
    )))

-- ---- phis

pub entry_tells : IsTeller entry_at SpellsEntry Anything
unfolding entry_at
entry_tells = made_whole (λ read. record { value = read.0; from = read.1 }) (λ entry. (entry.value, entry.from))
    SpellsEntry (λ entry. refl)
    (skip (sign_tells 91) (both operand_tells (skip (sign_tells 44) (kept block_name_tells (sign_tells 93)))))

pub entries_tell : IsTeller entries_at (WithParts SpellsEntry) (λ entries. NoComma tt)
unfolding entries_at
entries_tell = gathered_tells (WithParts SpellsEntry) (parts_there SpellsEntry attachments)
    (parts_back SpellsEntry attachments)
    (all_parts_read entry_tells.reader (λ told ts rest l. rw (l.3.2, l.3.3.1) refl))

abbrev pub SpellsPhi : IrType × (PhiEntry × List PhiEntry) → Mentioning
SpellsPhi read = the_type IsScalar read.0 ⊙ (SpellsEntry read.1.0 ⊙ WithParts SpellsEntry read.1.1)

abbrev pub make_phi : IrType × (PhiEntry × List PhiEntry) → Operation
make_phi read = plain (Phi read.0 (read.1.0 ∷ read.1.1))

pub phi_tells : IsTeller phi_at (IsMade make_phi SpellsPhi) (λ operation. NoComma tt)
unfolding phi_at
phi_tells = made_told make_phi (NoComma tt) (both (silent_tells scalar_types) (both entry_tells entries_tell))
