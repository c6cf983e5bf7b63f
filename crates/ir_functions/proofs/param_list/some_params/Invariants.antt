use Rattle.std.proofs.Common.{◌≡◌, ◌-◌, List, length, Option}
use Rattle.ir_model.specs.declared.function.Param.{Param}
use Rattle.ir_text.specs.Mentions.{Mention}
use Rattle.ir_parts.specs.declared.ending.Ending.{Ending}
use Rattle.ir_parts.specs.Places.{mentions_at}
use Rattle.ir_parts.proofs.ListLoops.{CommasRead}
use Rattle.ir_functions.specs.Functions.{params_of, param_at}
use Rattle.ir_functions.specs.Views.{bare_params, params_sites}
use Rattle.ir_functions.proofs.GatheredLists.{made_of}
use Rattle.ir_functions.proofs.param_list.some_params.Given as goal

abbrev pub invariant-params : goal.invariant-params
invariant-params l =
    (found : List ((Param × Option Ending) × List Mention))
    × (◌≡◌ {A = List Param × List Mention} (bare_params l.params, mentions_at l.tokens (params_sites l.params))
    (made_of params_of found))
    × CommasRead param_at l.tokens l.from l.at found

abbrev pub decreases-params : goal.decreases-params
decreases-params l = length l.tokens.tokens - l.at
