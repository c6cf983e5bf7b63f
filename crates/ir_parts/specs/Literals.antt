-- The operands that are words.
use Rattle.std.specs.Prelude.{ℕ, List, [], ◌∷◌, pos, Option, codes}
use Rattle.ir_model.specs.declared.op.Operand.{Operand}
use Rattle.ir_model.specs.declared.op.Operand.TheVariants as operand
use Rattle.ir_parts.specs.Tables.{look_up}

abbrev pub word_operands : List (List ℕ × Operand)
word_operands = (codes "true", operand.Num (pos 1)) ∷ (codes "false", operand.Num (pos 0))
    ∷ (codes "null", operand.Null)
    ∷ (codes "undef", operand.Undef) ∷ (codes "poison", operand.Poison) ∷ []

unfoldable pub word_operand : List ℕ → Option Operand
word_operand text = look_up word_operands text
