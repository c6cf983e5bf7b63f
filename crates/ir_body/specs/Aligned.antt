-- Readings of operations on memory that may have an alignment, with the attachments behind them.
use Rattle.std.specs.Prelude.{ℕ, List, [], ◌∷◌, ◌++◌, Option, Some, None, if◌then◌else◌, codes}
use Rattle.ir_model.specs.declared.op.Op.{Op}
use Rattle.ir_model.specs.declared.op.Op.TheVariants.{Alloca, Load, Store}
use Rattle.ir_text.specs.Tokens.{Lexeme}
use Rattle.ir_parts.specs.Reading as reading
use Rattle.ir_parts.specs.Reading.{Read, one_at, keyword_at}
use Rattle.ir_parts.specs.TypeReading.{is_numeral_kind, int_type_at, stored_type_at}
use Rattle.ir_parts.specs.ListReading.{parts_at}
use Rattle.ir_body.specs.declared.operation.Operation.{Operation}
use Rattle.ir_body.specs.Telling.{Telling, ◌⊗◌, ◌▷◌, made, comma_at, silently}
use Rattle.ir_body.specs.Operands.{operand_at, pointer_at}

-- the text of a numeral
abbrev pub numeral_of : Lexeme → Option (List ℕ)
numeral_of t = if is_numeral_kind t.kind then Some t.text else None

unfoldable pub numeral_at : Read (List ℕ)
numeral_at = one_at numeral_of

-- `align n`, as its text
abbrev pub align_text : List ℕ → List ℕ
align_text numeral = codes "align " ++ numeral

unfoldable pub align_at : Read (List ℕ)
align_at = reading.made align_text (reading.◌▷◌ (keyword_at (codes "align")) numeral_at)

-- the text of an alignment behind a comma, which is empty where there is none, and attachments
abbrev pub text_of_parts : List (List ℕ) → List ℕ
text_of_parts [] = []
text_of_parts (text ∷ more) = text

unfoldable pub alignment_at : Read (List ℕ)
alignment_at = reading.made text_of_parts (parts_at align_at 1)

-- an operation with the text of its alignment
abbrev pub aligned : Op → List ℕ → Operation
aligned op align = record { op = op; words = align ∷ [] }

unfoldable pub alloca_at : Telling Operation
alloca_at = made (λ read. aligned (Alloca read.0) read.1) (silently stored_type_at ⊗ silently alignment_at)

unfoldable pub load_at : Telling Operation
load_at = made (λ read. aligned (Load read.0 read.1.0) read.1.1)
    (silently int_type_at ⊗ comma_at ▷ pointer_at ⊗ silently alignment_at)

unfoldable pub store_at : Telling Operation
store_at = made (λ read. aligned (Store read.0 read.1.0 read.1.1.0) read.1.1.1)
    (silently int_type_at ⊗ operand_at ⊗ comma_at ▷ pointer_at ⊗ silently alignment_at)
