-- Arguments, parameters, instructions and blocks without ids, and one more of them.
use Rattle.std.proofs.Common.{◌≡◌, List, [], ◌∷◌, ◌++◌, map, Option, Some, None, refl, sym, ap, ◌∙◌}
use Rattle.std.specs.Option.{option_map}
use Rattle.std.proofs.lemmas.List.{append-nil, map-append}
use Rattle.ir_model.specs.declared.function.Param.{Param}
use Rattle.ir_model.specs.declared.function.Instr.{Instr}
use Rattle.ir_model.specs.declared.function.Block.{Block}
use Rattle.ir_text.specs.Mentions.{Mention}
use Rattle.ir_model.specs.Sites.{DefinesValue, typed_sites, instr_sites, block_sites}
use Rattle.ir_text.specs.Sites.{bare_typed, bare_param, bare_instr, bare_block}
use Rattle.ir_lex.specs.Tokenized.{Tokenized}
use Rattle.ir_parts.specs.declared.ending.Ending.{Ending}
use Rattle.ir_parts.specs.Places.{mentions_at}
use Rattle.ir_body.proofs.Told.{mentions_append}
use Rattle.ir_functions.specs.declared.arguments.Argument.{Argument}
use Rattle.ir_functions.specs.declared.argument_list.Arguments.{Arguments}
use Rattle.ir_functions.specs.declared.lines.Line.{Line}
use Rattle.ir_functions.specs.Arguments.{arguments_of}
use Rattle.ir_functions.specs.ArgumentViews.{bare_argument, argument_sites, bare_arguments, arguments_sites}
use Rattle.ir_functions.specs.Lines.{with_instr, instrs_of}
use Rattle.ir_functions.specs.Functions.{params_of}
use Rattle.ir_functions.specs.Views.{bare_read_param, param_sites, bare_params, params_sites, bare_line, line_sites, bare_instrs, instrs_sites, instr_sites_if_any, bare_blocks, blocks_sites}
use Rattle.ir_functions.proofs.GatheredLists.{made_of, made_more, sites_more}

-- ---- arguments

abbrev pub put : Arguments → Argument → Arguments
put args arg = record { typed = args.typed ++ arg.typed ∷ []; words = args.words ++ arg.words ∷ [] }

arguments_put : (args : List Argument) (arg : Argument) → arguments_of (args ++ arg ∷ [])
    ≡ put (arguments_of args) arg
arguments_put args arg =
    ap (λ typed. let made : Arguments = record {
      typed = typed;
      words = map (λ (arg : Argument). arg.words) (args ++ arg ∷ []);
    } in made) (map-append (λ (arg : Argument). arg.typed) args (arg ∷ []))
    ∙ ap (λ words. let made : Arguments = record {
      typed = map (λ (arg : Argument). arg.typed) args ++ arg.typed ∷ [];
      words = words;
    } in made) (map-append (λ (arg : Argument). arg.words) args (arg ∷ []))

pub one_more_argument : (t : Tokenized) (args : Arguments) (next : Argument) (found : List (Argument × List Mention))
    → ◌≡◌ {A = Arguments × List Mention} (bare_arguments args, mentions_at t (arguments_sites args))
    (made_of arguments_of found)
    → ◌≡◌ {A = Arguments × List Mention}
    (bare_arguments (put args next), mentions_at t (arguments_sites (put args next)))
    (made_of arguments_of (found ++ (bare_argument next, mentions_at t (argument_sites next)) ∷ []))
one_more_argument t args next found e =
    ap (λ typed. let made : Arguments = record { typed = typed; words = args.words ++ next.words ∷ [] } in
    (made, mentions_at t (arguments_sites (put args next)))) (map-append bare_typed args.typed (next.typed ∷ []))
    ∙ (ap (λ (ms : List Mention). (put (bare_arguments args) (bare_argument next), ms))
    (sites_more t typed_sites args.typed next.typed)
    ∙ made_more arguments_of put arguments_put found (bare_argument next) (mentions_at t (argument_sites next))
    (mentions_at t (arguments_sites args)) (bare_arguments args) e)

-- ---- parameters

abbrev put_param : List Param → Param × Option Ending → List Param
put_param params p = params ++ p.0 ∷ []

params_put : (ps : List (Param × Option Ending)) (p : Param × Option Ending) → params_of (ps ++ p ∷ [])
    ≡ put_param (params_of ps) p
params_put ps p = map-append (λ (p : Param × Option Ending). p.0) ps (p ∷ [])

pub one_more_param : (t : Tokenized) (params : List Param) (next : Param × Option Ending)
    (found : List ((Param × Option Ending) × List Mention))
    → ◌≡◌ {A = List Param × List Mention} (bare_params params, mentions_at t (params_sites params))
    (made_of params_of found)
    → ◌≡◌ {A = List Param × List Mention}
    (bare_params (params ++ next.0 ∷ []), mentions_at t (params_sites (params ++ next.0 ∷ [])))
    (made_of params_of (found ++ (bare_read_param next, mentions_at t (param_sites next)) ∷ []))
one_more_param t params next found e =
    ap (λ (bare : List Param). (bare, mentions_at t (params_sites (params ++ next.0 ∷ []))))
    (map-append bare_param params (next.0 ∷ []))
    ∙ (ap (λ (ms : List Mention). (bare_params params ++ bare_param next.0 ∷ [], ms))
    (ap (mentions_at t) (map-append (λ (p : Param). DefinesValue p.value.0) params (next.0 ∷ []))
    ∙ mentions_append t (params_sites params) (param_sites next))
    ∙ made_more params_of put_param params_put found (bare_read_param next) (mentions_at t (param_sites next))
    (mentions_at t (params_sites params)) (bare_params params) e)

-- ---- instructions

abbrev put_line : List Instr → Line → List Instr
put_line instrs line = instrs ++ with_instr line.instr []

with_before : (o : Option Instr) (before behind : List Instr) → with_instr o (before ++ behind)
    ≡ with_instr o before ++ behind
with_before None before behind = refl
with_before (Some instr) before behind = refl

instrs_put : (lines : List Line) (line : Line) → instrs_of (lines ++ line ∷ []) ≡ put_line (instrs_of lines) line
instrs_put [] line = refl
instrs_put (first ∷ lines) line =
    ap (with_instr first.instr) (instrs_put lines line)
    ∙ with_before first.instr (instrs_of lines) (with_instr line.instr [])

bare_put : (instrs : List Instr) (line : Line) → bare_instrs (put_line instrs line)
    ≡ put_line (bare_instrs instrs) (bare_line line)
bare_put instrs line = of line.instr
  where
    of : (o : Option Instr) → bare_instrs (instrs ++ with_instr o [])
        ≡ bare_instrs instrs ++ with_instr (option_map bare_instr o) []
    of None = ap bare_instrs (append-nil instrs) ∙ sym (append-nil (bare_instrs instrs))
    of (Some instr) = map-append bare_instr instrs (instr ∷ [])

sites_put : (t : Tokenized) (instrs : List Instr) (line : Line)
    → mentions_at t (instrs_sites (put_line instrs line))
    ≡ mentions_at t (instrs_sites instrs) ++ mentions_at t (line_sites line)
sites_put t instrs line = of line.instr
  where
    of : (o : Option Instr) → mentions_at t (instrs_sites (instrs ++ with_instr o []))
        ≡ mentions_at t (instrs_sites instrs) ++ mentions_at t (instr_sites_if_any o)
    of None =
        ap (λ (instrs : List Instr). mentions_at t (instrs_sites instrs)) (append-nil instrs)
        ∙ sym (append-nil (mentions_at t (instrs_sites instrs)))
    of (Some instr) = sites_more t instr_sites instrs instr

pub one_more_line : (t : Tokenized) (instrs : List Instr) (next : Line) (found : List (Line × List Mention))
    → ◌≡◌ {A = List Instr × List Mention} (bare_instrs instrs, mentions_at t (instrs_sites instrs))
    (made_of instrs_of found)
    → ◌≡◌ {A = List Instr × List Mention}
    (bare_instrs (put_line instrs next), mentions_at t (instrs_sites (put_line instrs next)))
    (made_of instrs_of (found ++ (bare_line next, mentions_at t (line_sites next)) ∷ []))
one_more_line t instrs next found e =
    ap (λ (bare : List Instr). (bare, mentions_at t (instrs_sites (put_line instrs next)))) (bare_put instrs next)
    ∙ (ap (λ (ms : List Mention). (put_line (bare_instrs instrs) (bare_line next), ms)) (sites_put t instrs next)
    ∙ made_more instrs_of put_line instrs_put found (bare_line next) (mentions_at t (line_sites next))
    (mentions_at t (instrs_sites instrs)) (bare_instrs instrs) e)

-- ---- blocks

abbrev put_block : List Block → Block → List Block
put_block blocks block = blocks ++ block ∷ []

pub one_more_block : (t : Tokenized) (blocks : List Block) (next : Block) (found : List (Block × List Mention))
    → ◌≡◌ {A = List Block × List Mention} (bare_blocks blocks, mentions_at t (blocks_sites blocks))
    (made_of (λ blocks. blocks) found)
    → ◌≡◌ {A = List Block × List Mention}
    (bare_blocks (blocks ++ next ∷ []), mentions_at t (blocks_sites (blocks ++ next ∷ [])))
    (made_of (λ blocks. blocks) (found ++ (bare_block next, mentions_at t (block_sites next)) ∷ []))
one_more_block t blocks next found e =
    ap (λ (bare : List Block). (bare, mentions_at t (blocks_sites (blocks ++ next ∷ []))))
    (map-append bare_block blocks (next ∷ []))
    ∙ (ap (λ (ms : List Mention). (bare_blocks blocks ++ bare_block next ∷ [], ms))
    (sites_more t block_sites blocks next)
    ∙ made_more (λ blocks. blocks) put_block (λ blocks block. refl) found (bare_block next)
    (mentions_at t (block_sites next)) (mentions_at t (blocks_sites blocks)) (bare_blocks blocks) e)
