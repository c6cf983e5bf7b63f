-- Arguments as they are read.
use Rattle.std.specs.Prelude.{ℕ, Bool, ◌==◌, List, ◌++◌, Option, option_map}
use Rattle.ir_memory.specs.Memory.{Memory}
use Rattle.ir_meaning.specs.declared.value.Value.{Value}
use Rattle.ir_eval.specs.Arguments.{Argument, Plain, NewBlock}
use Rattle.ir_eval.specs.declared.arguments.Argument.{Argument as Found}
use Rattle.ir_eval.specs.declared.arguments.Argument.TheVariants as found

abbrev pub meant : Found → Argument
meant (found.Plain x) = Plain x
meant (found.NewBlock size) = NewBlock size

abbrev pub is_comma : ℕ → Bool
is_comma c = c == 44

-- what arguments begin with, where there are others behind these
abbrev pub with_first : List Value → Option (List Value × Memory) → Option (List Value × Memory)
with_first args others = option_map (λ (others : List Value × Memory). (args ++ others.0, others.1)) others
