-- Reading literals: numerals and the words that are operands.
use Rattle.std.specs.Prelude.{ℕ, List, Option, Some, None}
use Rattle.std.specs.Str.Parse.{signed_digits_value}
use Rattle.ir_model.specs.declared.op.Operand.{Operand}
use Rattle.ir_model.specs.declared.op.Operand.TheVariants as operand
use Rattle.ir_text.specs.declared.token.TokenKind.{TokenKind}
use Rattle.ir_text.specs.declared.token.TokenKind.TheVariants.{Word, Numeral}
use Rattle.ir_text.specs.Tokens.{Lexeme}
use Rattle.ir_parts.specs.Literals.{word_operand}
use Rattle.ir_parts.specs.Reading.{Read, one_at}

-- the literal that a token is
unfoldable pub literal_of_parts : TokenKind → List ℕ → Option Operand
literal_of_parts Numeral text = Some (operand.Num (signed_digits_value 10 text))
literal_of_parts Word text = word_operand text
literal_of_parts _ text = None

abbrev pub literal_of : Lexeme → Option Operand
literal_of t = literal_of_parts t.kind t.text

abbrev pub literal_at : Read Operand
literal_at = one_at literal_of
