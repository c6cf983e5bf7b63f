-- Readings of operands and of what stands between them.
use Rattle.std.specs.Prelude.{ℕ, List, [], ◌∷◌, Option, Some, None, codes}
use Rattle.std.specs.Option.{option_map}
use Rattle.std.specs.Str.Parse.{signed_digits_value}
use Rattle.ir_model.specs.declared.op.Operand.{Operand}
use Rattle.ir_model.specs.declared.op.Operand.TheVariants as operand
use Rattle.ir_model.specs.declared.op.TypedOperand.{TypedOperand}
use Rattle.scev_base.specs.declared.ids.BlockId.{BlockId}
use Rattle.ir_text.specs.declared.token.TokenKind.{TokenKind}
use Rattle.ir_text.specs.declared.token.TokenKind.TheVariants.{Word, Numeral, Local, Global}
use Rattle.ir_text.specs.Tokens.{Lexeme}
use Rattle.ir_text.specs.Written.{Name}
use Rattle.ir_text.specs.Said.{said_local, said_global}
use Rattle.ir_text.specs.Mentions.{Mention}
use Rattle.ir_text.specs.Mentions as mention
use Rattle.ir_parts.specs.Literals.{word_operand}
use Rattle.ir_parts.specs.TypeReading.{scalar_type_at}
use Rattle.ir_parts.specs.Reading.{one_at}
use Rattle.ir_body.specs.declared.operands.Two.{Two}
use Rattle.ir_body.specs.Telling.{Telling, ◌⊗◌, ◌▷◌, made, word_at, comma_at, silently}

-- ---- operands

-- with the mention in it
abbrev pub told_register : Option Name → Option (Operand × List Mention)
told_register said = option_map (λ (name : Name). (operand.Reg (record { 0 = 0 }), mention.UsesValue name ∷ [])) said

abbrev pub told_global : Option (List ℕ) → Option (Operand × List Mention)
told_global said = option_map (λ (name : List ℕ). (operand.Global 0, mention.UsesGlobal name ∷ [])) said

abbrev pub told_word : Option Operand → Option (Operand × List Mention)
told_word said = option_map (λ (op : Operand). (op, [])) said

unfoldable pub operand_of_parts : TokenKind → List ℕ → Option (Operand × List Mention)
operand_of_parts Local text = told_register (said_local (record { kind = Local; text = text }))
operand_of_parts Global text = told_global (said_global (record { kind = Global; text = text }))
operand_of_parts Numeral text = Some (operand.Num (signed_digits_value 10 text), [])
operand_of_parts Word text = told_word (word_operand text)
operand_of_parts _ text = None

abbrev pub operand_of : Lexeme → Option (Operand × List Mention)
operand_of t = operand_of_parts t.kind t.text

unfoldable pub operand_at : Telling Operand
operand_at = one_at operand_of

-- `type v`, and `ptr v`
unfoldable pub typed_at : Telling TypedOperand
typed_at = made (λ read. record { kind = read.0; value = read.1 }) (silently scalar_type_at ⊗ operand_at)

unfoldable pub pointer_at : Telling Operand
pointer_at = word_at (codes "ptr") ▷ operand_at

-- `%block`, and `label %block`
abbrev pub told_block : Option Name → Option (BlockId × List Mention)
told_block said = option_map (λ (name : Name). (record { 0 = 0 }, mention.UsesBlock name ∷ [])) said

unfoldable pub block_name_at : Telling BlockId
block_name_at = one_at (λ t. told_block (said_local t))

unfoldable pub target_at : Telling BlockId
target_at = word_at (codes "label") ▷ block_name_at

-- `type v, v`
unfoldable pub two_at : Telling Two
two_at = made (λ read. record { kind = read.0; left = read.1.0; right = read.1.1 })
    (silently scalar_type_at ⊗ operand_at ⊗ comma_at ▷ operand_at)
