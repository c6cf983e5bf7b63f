use Rattle.std.proofs.Common.{List, [], ◌∷◌, ◌++◌, Option, refl}
use Rattle.std.proofs.lemmas.Result.{err_from_is_err_and}
use Rattle.ir_model.specs.declared.function.Param.{Param}
use Rattle.ir_text.specs.Mentions.{Mention}
use Rattle.ir_lex.specs.Tokenized.{Tokenized}
use Rattle.ir_parts.specs.declared.ending.Ending.{Ending}
use Rattle.ir_parts.specs.Reading.{left_from}
use Rattle.ir_parts.specs.ListReading.{with_commas_at}
use Rattle.ir_parts.specs.Places.{mentions_at}
use Rattle.ir_parts.proofs.ListLoops.{commas_first, commas_no_first, commas_more, commas_no_more, commas_end}
use Rattle.ir_functions.specs.Functions.{params_of, param_at, some_params_at, next_param_at}
use Rattle.ir_functions.specs.Views.{bare_read_param, param_sites, bare_params, params_sites}
use Rattle.ir_functions.proofs.GatheredLists.{made_read, made_faults}
use Rattle.ir_functions.proofs.ListViews.{one_more_param}
use Rattle.ir_functions.proofs.param_list.some_params.Goals as goal

abbrev Read : Type 0
Read = Param × Option Ending

abbrev told : Tokenized → Read → Read × List Mention
told t p = (bare_read_param p, mentions_at t (param_sites p))

abbrev seen : Tokenized → List Param → List Param × List Mention
seen t params = (bare_params params, mentions_at t (params_sites params))

abbrev all : List (Read × List Mention) → List (Read × List Mention)
all found = found

pub returns-in_err-first-clause-value : goal.returns-in_err-first-clause-value
unfolding some_params_at
returns-in_err-first-clause-value c =
    let t = c.args.tokens.now in
    let p = err_from_is_err_and c.from_residual.result c.from_residual.ensures.1 in
    rw (p.1, p.2) (made_faults params_of all (seen t) (with_commas_at param_at) t c.in_err-first.field-0.0
    (left_from t c.args.from)
    (commas_no_first param_at t c.args.from (told t) all c.in_err-first.field-0.0 c.in_err-first.ensures.value))

pub params-init : goal.params-init
params-init c =
    let t = c.args.tokens.now in
    rw (c.in_ok-push.ensures.ok, c.new-params.ensures) (
      told t c.in_ok-first.first ∷ [],
      one_more_param t [] c.in_ok-first.first [] refl,
      commas_first param_at t c.args.from c.in_ok-first.behind (told t c.in_ok-first.first)
          c.in_ok-first.ensures.value c.in_ok-first.ensures.forth,
    )

pub returns-in_err-next-clause-value : goal.returns-in_err-next-clause-value
unfolding some_params_at next_param_at
returns-in_err-next-clause-value c =
    let t = c.args.tokens.now in
    let p = err_from_is_err_and c.from_residual-in_err-next.result c.from_residual-in_err-next.ensures.1 in
    let so_far = c.params.invariant in
    rw (p.1, p.2) (made_faults params_of all (seen t) (with_commas_at param_at) t c.in_err-next.field-0.0
    (left_from t c.args.from)
    (commas_no_more param_at t c.args.from (told t) all c.in_err-next.field-0.0 c.params.at so_far.0 so_far.2
    c.params-test.ensures.value c.in_err-next.ensures.value))

pub params-preserved : goal.params-preserved
unfolding next_param_at
params-preserved c =
    let t = c.args.tokens.now in
    let so_far = c.params.invariant in
    let next = told t c.in_ok-next.next in
    rw c.in_ok-push-2.ensures.ok (
      so_far.0 ++ next ∷ [],
      one_more_param t c.params.params c.in_ok-next.next so_far.0 so_far.1,
      commas_more param_at t c.args.from c.params.at c.in_ok-next.behind so_far.0 next so_far.2
          c.params-test.ensures.value c.in_ok-next.ensures.value c.in_ok-next.ensures.forth,
    )

pub returns-clause-value : goal.returns-clause-value
unfolding some_params_at
returns-clause-value c =
    let t = c.args.tokens.now in
    let so_far = c.params.invariant in
    made_read params_of (with_commas_at param_at) (left_from t c.args.from) (left_from t c.params.at) so_far.0
    (seen t c.params.params)
    (commas_end param_at t c.args.from c.params.at so_far.0 so_far.2 c.params-test.ensures.value) so_far.1
