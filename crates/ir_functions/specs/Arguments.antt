-- Reading arguments of calls: `type W v`. The operand is what stands directly before the `,` or `)`; so a word that may
-- be passed on, as `null`, is the operand where nothing more stands behind it, and so is the numeral behind `align`.
use Rattle.std.specs.Prelude.{ℕ, ◌-◌, Bool, true, false, ◌&&◌, not, if◌then◌else◌, List, [], length, map, take, slice_get, Option, Some, None, Result, Ok, Err}
use Rattle.std.specs.Option.{option_and_then, is_some}
use Rattle.ir_model.specs.declared.types.IrType.{IrType}
use Rattle.ir_model.specs.declared.op.Operand.{Operand}
use Rattle.ir_text.specs.Tokens.{Lexeme}
use Rattle.ir_text.specs.PassedOn.{passed_text}
use Rattle.ir_text.specs.Mentions.{Mention}
use Rattle.ir_parts.specs.declared.ending.Ending.{Ending}
use Rattle.ir_parts.specs.declared.ending.Ending.TheVariants.{Word, Placed}
use Rattle.ir_parts.specs.declared.ending.Run.{Run}
use Rattle.ir_parts.specs.Reading.{is_word_kind, is_punctuation, punctuation_at, choose, taking}
use Rattle.ir_parts.specs.TypeReading.{scalar_type_at}
use Rattle.ir_parts.specs.WordsReading.{run_at}
use Rattle.ir_parts.specs.ListReading.{with_commas_at, listed_at}
use Rattle.ir_parts.specs.Reading as reading
use Rattle.ir_body.specs.Telling.{Telling, give, ◌>>=◌, ◌▷◌, ◌◁◌, made, silently, sign_at}
use Rattle.ir_body.specs.Operands.{operand_of, operand_at}
use Rattle.ir_body.specs.Gathered.{gathered}
use Rattle.ir_functions.specs.declared.arguments.Argument.{Argument}
use Rattle.ir_functions.specs.declared.argument_list.Arguments.{Arguments}

-- whether a token is an operand that belongs to no run: a register, a global or a numeral
abbrev pub is_outer : Lexeme → Bool
is_outer t = is_some (operand_of t) && not (is_word_kind t.kind)

-- whether the last token of a run that ends so may be an operand
abbrev pub may_be_operand : Ending → Bool
may_be_operand Word = true
may_be_operand Placed = true
may_be_operand _ = false

-- the operand that the last token of a run is
abbrev pub inner_operand : Ending → List Lexeme → Option (Operand × List Mention)
inner_operand ending taken =
    if may_be_operand ending then option_and_then operand_of (slice_get taken (length taken - 1)) else None

-- the argument whose operand stands behind the run
unfoldable pub outer_at : IrType → List Lexeme → Telling Argument
outer_at kind taken = made
    (λ value. record { typed = record { kind = kind; value = value }; words = passed_text taken; inner = None })
    operand_at

-- the argument whose operand is the last token of the run
abbrev pub argument_within : IrType → Ending → List Lexeme → Operand → Argument
argument_within kind ending taken value = record {
  typed = record { kind = kind; value = value };
  words = passed_text (take (length taken - 1) taken);
  inner = Some ending;
}

unfoldable pub inner_at : IrType → Ending → List Lexeme → Telling Argument
inner_at kind ending taken ts = told (inner_operand ending taken)
  where
    told : Option (Operand × List Mention) → Result ((Argument × List Mention) × List Lexeme) ℕ
    told (Some read) = Ok ((argument_within kind ending taken read.0, read.1), ts)
    told None = Err (length ts)

unfoldable pub argument_behind_at : IrType → Run × List Lexeme → Telling Argument
argument_behind_at kind read = choose is_outer (outer_at kind read.1) (inner_at kind read.0.ending read.1)

-- what stands behind the type
abbrev pub behind_type_at : IrType → Telling Argument
behind_type_at kind = silently (taking run_at) >>= argument_behind_at kind

unfoldable pub argument_at : Telling Argument
argument_at = silently scalar_type_at >>= behind_type_at

-- the arguments and the `)` behind them
unfoldable pub arguments_at : Telling (List Argument)
arguments_at = reading.made gathered (listed_at argument_at 41)

-- the operands, and the words of each
abbrev pub arguments_of : List Argument → Arguments
arguments_of args = record {
  typed = map (λ (arg : Argument). arg.typed) args;
  words = map (λ (arg : Argument). arg.words) args;
}

-- one argument or more
unfoldable pub some_given_at : Telling Arguments
some_given_at = made arguments_of (reading.made gathered (with_commas_at argument_at))

-- one more, behind a comma
unfoldable pub next_argument_at : Telling Argument
next_argument_at = reading.◌▷◌ (punctuation_at 44) argument_at

-- all arguments, and the `)`
unfoldable pub given_at : Telling Arguments
given_at = choose (is_punctuation 41) (sign_at 41 ▷ give (arguments_of [])) (some_given_at ◁ sign_at 41)
