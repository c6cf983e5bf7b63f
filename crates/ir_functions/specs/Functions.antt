-- Reading blocks, parameters and functions.
use Rattle.std.specs.Prelude.{ℕ, Bool, true, false, if◌then◌else◌, List, [], ◌∷◌, map, Option, Some, None, Ok, codes}
use Rattle.std.specs.Option.{option_map, is_some}
use Rattle.scev_base.specs.declared.ids.ValueId.{ValueId}
use Rattle.scev_base.specs.declared.ids.BlockId.{BlockId}
use Rattle.ir_model.specs.declared.types.IrType.{IrType}
use Rattle.ir_model.specs.declared.function.Param.{Param}
use Rattle.ir_model.specs.declared.function.Block.{Block}
use Rattle.ir_model.specs.declared.function.Function.{Function}
use Rattle.ir_text.specs.Tokens.{Lexeme}
use Rattle.ir_text.specs.Written.{Name}
use Rattle.ir_text.specs.Said.{said_label, said_global}
use Rattle.ir_text.specs.Mentions.{Mention, DefinesValue, DefinesBlock}
use Rattle.ir_parts.specs.declared.ending.Ending.{Ending}
use Rattle.ir_parts.specs.declared.ending.Run.{Run}
use Rattle.ir_parts.specs.Reading.{Read, is_punctuation, punctuation_at, one_at, choose}
use Rattle.ir_parts.specs.Reading as reading
use Rattle.ir_parts.specs.TypeReading.{scalar_type_at, returned_type_at}
use Rattle.ir_parts.specs.MetadataReading.{pairs_at}
use Rattle.ir_parts.specs.ListReading.{with_commas_at, listed_at, all_up_to_at}
use Rattle.ir_body.specs.Telling.{Telling, give, silently, made, word_at, sign_at, ◌⊗◌, ◌▷◌, ◌◁◌}
use Rattle.ir_body.specs.Gathered.{gathered}
use Rattle.ir_parts.specs.WordsReading.{words_at}
use Rattle.ir_functions.specs.Lines.{defined_at, is_local, instrs_at}

-- ---- blocks

-- `name:`, and where no label stands
abbrev pub told_label : Option Name → Option (BlockId × List Mention)
told_label said = option_map (λ (name : Name). (record { 0 = 0 }, DefinesBlock (Some name) ∷ [])) said

unfoldable pub label_at : Telling BlockId
label_at = one_at (λ t. told_label (said_label t))

unfoldable pub no_label_at : Telling BlockId
no_label_at ts = Ok ((record { 0 = 0 }, DefinesBlock None ∷ []), ts)

abbrev pub is_label : Lexeme → Bool
is_label t = is_some (said_label t)

unfoldable pub block_name_at : Telling BlockId
block_name_at = choose is_label label_at no_label_at

unfoldable pub block_at : Telling Block
block_at = made (λ p. record { id = p.0; instrs = p.1 }) (block_name_at ⊗ instrs_at)

-- ---- parameters

-- `%name`, and where none stands; with whether one does
unfoldable pub name_at : Telling (ValueId × Bool)
name_at = made (λ v. (v, true)) defined_at

unfoldable pub no_name_at : Telling (ValueId × Bool)
no_name_at ts = Ok (((record { 0 = 0 }, false), DefinesValue None ∷ []), ts)

unfoldable pub param_name_at : Telling (ValueId × Bool)
param_name_at = choose is_local name_at no_name_at

-- a parameter, and how its words end where no name stands behind them
abbrev pub param_of : IrType × ((Run × List ℕ) × (ValueId × Bool)) → Param × Option Ending
param_of p = (
  record { kind = p.0; words = p.1.0.1; value = p.1.1.0 },
  if p.1.1.1 then None else Some p.1.0.0.ending,
)

unfoldable pub param_at : Telling (Param × Option Ending)
param_at = made param_of (silently scalar_type_at ⊗ (silently words_at ⊗ param_name_at))

-- the parameters and the `)` behind them
abbrev pub params_of : List (Param × Option Ending) → List Param
params_of params = map (λ (p : Param × Option Ending). p.0) params

unfoldable pub params_at : Telling (List (Param × Option Ending))
params_at = reading.made gathered (listed_at param_at 41)

-- one parameter or more
unfoldable pub some_params_at : Telling (List Param)
some_params_at = made params_of (reading.made gathered (with_commas_at param_at))

-- one more, behind a comma
unfoldable pub next_param_at : Telling (Param × Option Ending)
next_param_at = reading.◌▷◌ (punctuation_at 44) param_at

-- all parameters, and the `)`
unfoldable pub taken_params_at : Telling (List Param)
taken_params_at = choose (is_punctuation 41) (sign_at 41 ▷ give []) (some_params_at ◁ sign_at 41)

-- ---- functions

unfoldable pub blocks_at : Telling (List Block)
blocks_at = reading.made gathered (all_up_to_at 125 block_at)

-- one block or more, up to the `}`
unfoldable pub body_at : Telling (List Block)
body_at = made (λ p. p.0 ∷ p.1) (block_at ⊗ blocks_at)

-- what stands before the parameters: words, the type, and the name
unfoldable pub signature_at : Telling ((Run × List ℕ) × (IrType × List ℕ))
signature_at = word_at (codes "define") ▷ silently words_at
    ⊗ (silently returned_type_at ⊗ silently (one_at said_global))

-- and what stands behind them: words, and dropped metadata
unfoldable pub opening_at : Telling (Run × List ℕ)
opening_at = made (λ p. p.0) (silently words_at ⊗ (silently pairs_at ▷ sign_at 123))

abbrev pub function_of : ((Run × List ℕ) × (IrType × List ℕ)) × (List Param × ((Run × List ℕ) × List Block))
    → Function
function_of p = record {
  name = p.0.1.1;
  words = p.0.0.1 ∷ p.1.1.0.1 ∷ [];
  ret = p.0.1.0;
  params = p.1.0;
  blocks = p.1.1.1;
  values = [];
  labels = [];
}

unfoldable pub function_at : Telling Function
function_at = made function_of
    (signature_at ⊗ (sign_at 40 ▷ (taken_params_at ⊗ (opening_at ⊗ body_at))))
