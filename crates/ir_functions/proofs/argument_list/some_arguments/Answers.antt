use Rattle.std.proofs.Common.{List, [], ◌∷◌, ◌++◌, refl}
use Rattle.std.proofs.lemmas.Result.{err_from_is_err_and}
use Rattle.ir_text.specs.Mentions.{Mention}
use Rattle.ir_lex.specs.Tokenized.{Tokenized}
use Rattle.ir_parts.specs.Reading.{left_from}
use Rattle.ir_parts.specs.ListReading.{with_commas_at}
use Rattle.ir_parts.specs.Places.{mentions_at}
use Rattle.ir_parts.proofs.ListLoops.{commas_first, commas_no_first, commas_more, commas_no_more, commas_end}
use Rattle.ir_functions.specs.declared.arguments.Argument.{Argument}
use Rattle.ir_functions.specs.declared.argument_list.Arguments.{Arguments}
use Rattle.ir_functions.specs.Arguments.{argument_at, arguments_of, some_given_at, next_argument_at}
use Rattle.ir_functions.specs.ArgumentViews.{bare_argument, argument_sites, bare_arguments, arguments_sites}
use Rattle.ir_functions.proofs.GatheredLists.{made_read, made_faults}
use Rattle.ir_functions.proofs.ListViews.{one_more_argument}
use Rattle.ir_functions.proofs.argument_list.some_arguments.Goals as goal

abbrev told : Tokenized → Argument → Argument × List Mention
told t arg = (bare_argument arg, mentions_at t (argument_sites arg))

abbrev seen : Tokenized → Arguments → Arguments × List Mention
seen t args = (bare_arguments args, mentions_at t (arguments_sites args))

abbrev all : List (Argument × List Mention) → List (Argument × List Mention)
all found = found

pub returns-in_err-first-clause-value : goal.returns-in_err-first-clause-value
unfolding some_given_at
returns-in_err-first-clause-value c =
    let t = c.args.tokens.now in
    let p = err_from_is_err_and c.from_residual.result c.from_residual.ensures.1 in
    rw (p.1, p.2) (made_faults arguments_of all (seen t) (with_commas_at argument_at) t c.in_err-first.field-0.0
    (left_from t c.args.from)
    (commas_no_first argument_at t c.args.from (told t) all c.in_err-first.field-0.0 c.in_err-first.ensures.value))

pub arguments-init : goal.arguments-init
arguments-init c =
    let t = c.args.tokens.now in
    rw (c.in_ok-push.ensures, c.new-args.ensures) (
      told t c.in_ok-first.first ∷ [],
      one_more_argument t (record { typed = []; words = [] }) c.in_ok-first.first [] refl,
      commas_first argument_at t c.args.from c.in_ok-first.behind (told t c.in_ok-first.first)
          c.in_ok-first.ensures.value c.in_ok-first.ensures.forth,
    )

pub returns-in_err-next-clause-value : goal.returns-in_err-next-clause-value
unfolding some_given_at next_argument_at
returns-in_err-next-clause-value c =
    let t = c.args.tokens.now in
    let p = err_from_is_err_and c.from_residual-in_err-next.result c.from_residual-in_err-next.ensures.1 in
    let so_far = c.arguments.invariant in
    rw (p.1, p.2) (made_faults arguments_of all (seen t) (with_commas_at argument_at) t c.in_err-next.field-0.0
    (left_from t c.args.from)
    (commas_no_more argument_at t c.args.from (told t) all c.in_err-next.field-0.0 c.arguments.at so_far.0 so_far.2
    c.arguments-test.ensures.value c.in_err-next.ensures.value))

pub arguments-preserved : goal.arguments-preserved
unfolding next_argument_at
arguments-preserved c =
    let t = c.args.tokens.now in
    let so_far = c.arguments.invariant in
    let next = told t c.in_ok-next.next in
    rw c.in_ok-push-2.ensures (
      so_far.0 ++ next ∷ [],
      one_more_argument t c.arguments.args c.in_ok-next.next so_far.0 so_far.1,
      commas_more argument_at t c.args.from c.arguments.at c.in_ok-next.behind so_far.0 next so_far.2
          c.arguments-test.ensures.value c.in_ok-next.ensures.value c.in_ok-next.ensures.forth,
    )

pub returns-clause-value : goal.returns-clause-value
unfolding some_given_at
returns-clause-value c =
    let t = c.args.tokens.now in
    let so_far = c.arguments.invariant in
    made_read arguments_of (with_commas_at argument_at) (left_from t c.args.from) (left_from t c.arguments.at) so_far.0
    (seen t c.arguments.args)
    (commas_end argument_at t c.args.from c.arguments.at so_far.0 so_far.2 c.arguments-test.ensures.value) so_far.1
