-- Readings of the cases of a switch, and of what ends blocks with them.
use Rattle.std.specs.Prelude.{ℕ, ◌+◌, Result, Ok, Err, Bool, ◌&&◌, ◌||◌, List, [], ◌∷◌, ℤ, pos, Option, Some, None, codes}
use Rattle.std.specs.Option.{is_some}
use Rattle.std.specs.Str.{bytes_eq}
use Rattle.std.specs.Str.Parse.{signed_digits_value}
use Rattle.ir_model.specs.declared.op.Case.{Case}
use Rattle.ir_model.specs.declared.op.Op.TheVariants.{Switch, Unreachable}
use Rattle.ir_text.specs.declared.token.TokenKind.{TokenKind}
use Rattle.ir_text.specs.declared.token.TokenKind.TheVariants.{Word, Numeral}
use Rattle.ir_text.specs.Tokens.{Lexeme}
use Rattle.ir_parts.specs.Reading.{Read, one_at, is_word_kind, repeated_at}
use Rattle.ir_parts.specs.declared.fault.ItemFault.{ItemFault}
use Rattle.ir_parts.specs.declared.fault.ItemFault.TheVariants.{CannotGoOn}
use Rattle.ir_parts.specs.TypeReading.{int_width_of, scalar_type_at}
use Rattle.ir_body.specs.declared.operation.Operation.{Operation}
use Rattle.ir_body.specs.Tables.{look_up}
use Rattle.ir_body.specs.Telling.{Telling, give, ◌⊗◌, ◌▷◌, ◌◁◌, made, sign_at, comma_at, silently}
use Rattle.ir_body.specs.Gathered.{gathering}
use Rattle.ir_body.specs.Operands.{typed_at, target_at}
use Rattle.ir_body.specs.Plain.{plain}

-- a numeral, or a word that stands for a number
abbrev pub number_words : List (List ℕ × ℤ)
number_words = (codes "true", pos 1) ∷ (codes "false", pos 0) ∷ []

unfoldable pub number_word : List ℕ → Option ℤ
number_word text = look_up number_words text

abbrev pub number_of_parts : TokenKind → List ℕ → Option ℤ
number_of_parts Numeral text = Some (signed_digits_value 10 text)
number_of_parts Word text = number_word text
number_of_parts _ text = None

abbrev pub number_of : Lexeme → Option ℤ
number_of t = number_of_parts t.kind t.text

unfoldable pub number_at : Read ℤ
number_at = one_at number_of

-- the number that the token at a place is, with the place behind it, or the fault
abbrev pub number_or_fault : Option ℤ → ℕ → Result (ℤ × ℕ) ItemFault
number_or_fault (Some n) at = Ok (n, at + 1)
number_or_fault None at = Err (CannotGoOn at)

-- `type n, label %block`
unfoldable pub case_at : Telling Case
case_at = made (λ read. record { kind = read.0; number = read.1.0; to = read.1.1 })
    (silently scalar_type_at ⊗ silently number_at ⊗ comma_at ▷ target_at)

-- a type of integers or `ptr`, which begins a case
abbrev pub begins_scalar : Lexeme → Bool
begins_scalar t = is_word_kind t.kind && (bytes_eq t.text (codes "ptr") || is_some (int_width_of t.text))

unfoldable pub cases_at : Telling (List Case)
cases_at = gathering (repeated_at begins_scalar case_at)

-- `type v, label %block [ .. ]`
unfoldable pub switch_at : Telling Operation
switch_at = made (λ read. plain (Switch read.0.kind read.0.value read.1.0 read.1.1))
    (typed_at ⊗ comma_at ▷ target_at ⊗ sign_at 91 ▷ cases_at ◁ sign_at 93)

-- nothing stands behind `unreachable`
unfoldable pub unreachable_at : Telling Operation
unreachable_at = give (plain Unreachable)
