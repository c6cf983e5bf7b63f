-- What was said, as it is seen.
use Rattle.std.specs.Option.{option_map, option_copied}
use Rattle.scev_words.specs.Modes.{Name, Function, Args, Steps}
use Rattle.scev_words.specs.Said.{Said}
use Rattle.scev_words.specs.declared.options.Name.{Name as Option}
use Rattle.scev_words.specs.declared.options.Name.TheVariants as option
use Rattle.scev_words.specs.declared.options.Said.{Said as Found}

abbrev pub name_by : Option → Name
name_by option.Function = Function
name_by option.Args = Args
name_by option.Steps = Steps

abbrev pub said_by : Found → Said
said_by said = record {
  mode = said.mode;
  function = option_copied said.function;
  args = option_copied said.args;
  steps = option_copied said.steps;
  awaited = option_map name_by said.awaited;
}
