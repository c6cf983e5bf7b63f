-- Reading declarations.
use Rattle.std.specs.Prelude.{ℕ, if◌then◌else◌, List, [], Option, Some, None, codes}
use Rattle.ir_model.specs.declared.types.IrType.{IrType}
use Rattle.ir_model.specs.declared.item.DeclaredParam.{DeclaredParam}
use Rattle.ir_model.specs.declared.item.Declare.{Declare}
use Rattle.ir_text.specs.Language.{Language, ◌·◌, one, keyword}
use Rattle.ir_text.specs.Said.{said_global}
use Rattle.ir_model.specs.Kinds.{IsReturned}
use Rattle.ir_text.specs.Types.{SpellsTypeOf}
use Rattle.ir_text.specs.PassedOn.{IsPassedOn, in_parentheses, metadata_pairs}
use Rattle.ir_grammar.specs.Functions.{IsDroppedCallee, is_dropped_name}
use Rattle.ir_grammar.specs.Items.{SpellsDeclare}
use Rattle.ir_parts.specs.declared.ending.Ending.{Ending}
use Rattle.ir_parts.specs.declared.ending.Run.{Run}
use Rattle.ir_parts.specs.Reading.{Read, ◌>>=◌, pure, ◌⊗◌, ◌▷◌, ◌◁◌, made, one_at, is_punctuation, keyword_at, punctuation_at, choose}
use Rattle.ir_parts.specs.TypeReading.{scalar_type_at, returned_type_at}
use Rattle.ir_parts.specs.MetadataReading.{pairs_at}
use Rattle.ir_parts.specs.WordsReading.{parentheses_at, run_at, words_at}
use Rattle.ir_parts.specs.ListReading.{with_commas_at, listed_at}

-- ---- parameters

-- one parameter: its type, and a run of words with their text
unfoldable pub declared_param_at : Read (IrType × (Run × List ℕ))
declared_param_at = scalar_type_at ⊗ words_at

-- the parameters, and the `)` behind them
unfoldable pub declared_params_at : Read (List (IrType × (Run × List ℕ)))
declared_params_at = listed_at declared_param_at 41

-- as the code reads them
abbrev pub declared_of : IrType × (Run × List ℕ) → DeclaredParam
declared_of p = record { kind = p.0; words = p.1.1 }

unfoldable pub one_param_at : Read DeclaredParam
one_param_at = made declared_of declared_param_at

-- one parameter or more, with commas between them; and one more
unfoldable pub some_params_at : Read (List DeclaredParam)
some_params_at = with_commas_at one_param_at

unfoldable pub next_param_at : Read DeclaredParam
next_param_at = punctuation_at 44 ▷ one_param_at

unfoldable pub no_params_at : Read (List DeclaredParam)
no_params_at = punctuation_at 41 ▷ pure []

unfoldable pub closed_params_at : Read (List DeclaredParam)
closed_params_at = some_params_at ◁ punctuation_at 41

unfoldable pub taken_params_at : Read (List DeclaredParam)
taken_params_at = choose (is_punctuation 41) no_params_at closed_params_at

-- ---- declarations

-- what stands before the parameters: dropped metadata, words, the type, and the name
abbrev pub DeclareHead : Type 0
DeclareHead = (Run × List ℕ) × (IrType × List ℕ)

unfoldable pub declare_head_at : Read DeclareHead
declare_head_at = keyword_at (codes "declare") ▷ pairs_at ▷ words_at ⊗ returned_type_at ⊗ one_at said_global

-- A function whose calls are dropped is dropped, with whatever stands within its brackets; how its last words end.
unfoldable pub dropped_declare_at : Read (Option Declare × Ending)
dropped_declare_at = made (λ run. (None, run.ending)) (parentheses_at ▷ run_at)

abbrev pub declare_of : DeclareHead → List DeclaredParam × (Run × List ℕ) → Option Declare × Ending
declare_of head p = (
  Some (record { before = head.0.1; ret = head.1.0; name = head.1.1; params = p.0; after = p.1.1 }),
  p.1.0.ending,
)

unfoldable pub kept_declare_at : DeclareHead → Read (Option Declare × Ending)
kept_declare_at head = made (declare_of head) (punctuation_at 40 ▷ taken_params_at ⊗ words_at)

unfoldable pub behind_head_at : DeclareHead → Read (Option Declare × Ending)
behind_head_at head ts = if is_dropped_name head.1.1 then dropped_declare_at ts else kept_declare_at head ts

-- a declaration, or none where it is dropped, and how its last run of words ends
unfoldable pub declare_at : Read (Option Declare × Ending)
declare_at = declare_head_at >>= behind_head_at

-- ---- the language

-- a declaration that is dropped
abbrev pub dropped_declare : Language
dropped_declare = keyword (codes "declare") · metadata_pairs · IsPassedOn
    · (λ ts. (ret : IrType) × SpellsTypeOf IsReturned ret ts)
    · one IsDroppedCallee · in_parentheses · IsPassedOn

abbrev pub SpellsDeclareIfAny : Option Declare → Language
SpellsDeclareIfAny None = dropped_declare
SpellsDeclareIfAny (Some d) = SpellsDeclare d
