-- The parameters of declarations are read.
use Rattle.std.proofs.Common.{◌≡◌, ℕ, true, false, ◌&&◌, List, [], ◌∷◌, ◌++◌, refl, ap, ◌∙◌, append_assoc}
use Rattle.std.specs.Str.{bytes_eq}
use Rattle.ir_model.specs.declared.types.IrType.{IrType}
use Rattle.ir_model.specs.declared.types.IrType.TheVariants.{Void, Int, Ptr, Array}
use Rattle.ir_text.specs.Tokens.{Lexeme}
use Rattle.ir_text.specs.Listed.{sign}
use Rattle.ir_text.specs.Language.{Language, ◌·◌, punctuation}
use Rattle.ir_model.specs.Kinds.{IsScalar}
use Rattle.ir_text.specs.Types.{SpellsTypeOf}
use Rattle.ir_text.specs.PassedOn.{is_sign_kind}
use Rattle.ir_parts.specs.declared.ending.Run.{Run}
use Rattle.ir_parts.specs.Reading.{begins, is_punctuation}
use Rattle.ir_parts.specs.Runs.{SpellsRunText, ends_run}
use Rattle.ir_parts.proofs.Readers.{IsReader, Anything}
use Rattle.ir_parts.proofs.Together.{both_read_on}
use Rattle.ir_parts.proofs.SingleTokens.{is_sign}
use Rattle.ir_parts.proofs.TypeReaders.{scalar_types}
use Rattle.ir_parts.proofs.WordsReader.{StopsWords, words_read}
use Rattle.ir_parts.proofs.RunEnds.{ends_each, comma_ends, closing_round_ends}
use Rattle.ir_parts.proofs.ListReaders.{AnyWithCommas, listed_reads}
use Rattle.ir_items.specs.DeclaredReading.{declared_param_at, declared_params_at}

-- a parameter: its type, and a run of words with what it says and its text
abbrev pub SpellsParam : IrType × (Run × List ℕ) → Language
SpellsParam param = SpellsTypeOf IsScalar param.0 · SpellsRunText param.1

-- no token that goes on with its run continues it
abbrev pub StopsParam : IrType × (Run × List ℕ) → Lexeme → Type 0
StopsParam param t = StopsWords param.1 t

pub declared_param_reads : IsReader declared_param_at SpellsParam StopsParam
unfolding declared_param_at
declared_param_reads = both_read_on scalar_types words_read

-- a sign that ends each run does so here
sign_stops : (b : ℕ) → ends_run (sign b) ≡ true → (param : IrType × (Run × List ℕ)) (t : Lexeme)
    → is_punctuation b t ≡ true → StopsParam param t
sign_stops b ends param t e = ends_each param.1.0.ending t (ap ends_run (is_sign b t e) ∙ ends)

-- no type begins with a sign that closes
type_no_closing : (kind : IrType) (ts rest : List Lexeme) → SpellsTypeOf IsScalar kind ts
    → begins (is_punctuation 41) (ts ++ rest) ≡ false
type_no_closing Void ts rest l = absurd l.0
type_no_closing (Int width) ts rest l =
    rw l.1.1 (ap (λ kind. is_sign_kind 41 kind && bytes_eq l.1.0.text (41 ∷ [])) l.1.2.0)
type_no_closing Ptr ts rest l = rw l.1 refl
type_no_closing (Array dims width) ts rest l = absurd l.0

param_no_closing : (param : IrType × (Run × List ℕ)) (ts rest : List Lexeme) → SpellsParam param ts
    → begins (is_punctuation 41) (ts ++ rest) ≡ false
param_no_closing param ts rest l =
    ap (begins (is_punctuation 41)) (ap (λ (ts : List Lexeme). ts ++ rest) l.2 ∙ append_assoc l.0 l.1 rest)
    ∙ type_no_closing param.0 l.0 (l.1 ++ rest) l.3

-- Any number of parameters is read with the `)` behind them, which nothing continues.
pub declared_params_read : IsReader declared_params_at (λ params. AnyWithCommas SpellsParam params · punctuation 41)
    Anything
unfolding declared_params_at
declared_params_read =
    listed_reads 41 declared_param_reads (sign_stops 44 comma_ends) (sign_stops 41 closing_round_ends) refl
    param_no_closing
