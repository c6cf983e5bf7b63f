use Rattle.std.proofs.Common.{◌≡◌, ◌-◌, List, length}
use Rattle.ir_text.specs.Mentions.{Mention}
use Rattle.ir_parts.specs.Places.{mentions_at}
use Rattle.ir_parts.proofs.ListLoops.{CommasRead}
use Rattle.ir_functions.specs.declared.arguments.Argument.{Argument}
use Rattle.ir_functions.specs.declared.argument_list.Arguments.{Arguments}
use Rattle.ir_functions.specs.Arguments.{argument_at, arguments_of}
use Rattle.ir_functions.specs.ArgumentViews.{bare_arguments, arguments_sites}
use Rattle.ir_functions.proofs.GatheredLists.{made_of}
use Rattle.ir_functions.proofs.argument_list.some_arguments.Given as goal

abbrev pub invariant-arguments : goal.invariant-arguments
invariant-arguments l =
    (found : List (Argument × List Mention))
    × (◌≡◌ {A = Arguments × List Mention} (bare_arguments l.args, mentions_at l.tokens (arguments_sites l.args))
    (made_of arguments_of found))
    × CommasRead argument_at l.tokens l.from l.at found

abbrev pub decreases-arguments : goal.decreases-arguments
decreases-arguments l = length l.tokens.tokens - l.at
