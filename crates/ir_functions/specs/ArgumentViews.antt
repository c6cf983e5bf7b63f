-- Arguments without ids, and the ids in them.
use Rattle.std.specs.Prelude.{List, map}
use Rattle.std.specs.List.{flat_map}
use Rattle.ir_model.specs.Sites.{Site, typed_sites}
use Rattle.ir_text.specs.Sites.{bare_typed}
use Rattle.ir_functions.specs.declared.arguments.Argument.{Argument}
use Rattle.ir_functions.specs.declared.argument_list.Arguments.{Arguments}

abbrev pub bare_argument : Argument → Argument
bare_argument arg = record { typed = bare_typed arg.typed; words = arg.words; inner = arg.inner }

abbrev pub argument_sites : Argument → List Site
argument_sites arg = typed_sites arg.typed

-- all arguments of a call
abbrev pub bare_arguments : Arguments → Arguments
bare_arguments args = record { typed = map bare_typed args.typed; words = args.words }

abbrev pub arguments_sites : Arguments → List Site
arguments_sites args = flat_map typed_sites args.typed
