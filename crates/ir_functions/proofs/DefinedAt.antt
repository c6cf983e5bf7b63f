-- What the name at a place defines.
use Rattle.std.proofs.Common.{◌≡◌, ℕ, ◌+◌, ◌≤◌, true, false, List, [], ◌∷◌, ◌++◌, length, Option, Some, None, Ok, Err, refl, sym, ap, ◌∙◌}
use Rattle.std.specs.Option.{is_some}
use Rattle.ir_model.specs.declared.types.IrType.{IrType}
use Rattle.ir_model.specs.declared.types.IrType.TheVariants.{Int, Ptr}
use Rattle.ir_text.specs.Tokens.{Lexeme}
use Rattle.ir_model.specs.Kinds.{IsScalar}
use Rattle.ir_text.specs.Types.{SpellsTypeOf}
use Rattle.ir_parts.specs.TypeReading.{scalar_type_at}
use Rattle.ir_parts.proofs.TypeReaders.{scalar_types}
use Rattle.ir_text.specs.Written.{Name}
use Rattle.ir_text.specs.Said.{said_local}
use Rattle.ir_text.specs.Mentions as mention
use Rattle.ir_lex.specs.Tokenized.{Tokenized, lexemes}
use Rattle.ir_parts.specs.Reading.{left_from, first_given, ReadsAs}
use Rattle.ir_parts.specs.declared.fault.ItemFault.TheVariants.{CannotGoOn}
use Rattle.ir_parts.specs.Places.{said_at, mentions_at}
use Rattle.ir_parts.proofs.Places.{one_given, one_not_given}
use Rattle.ir_body.proofs.SaidAt.{said_first}
use Rattle.ir_functions.specs.Lines.{told_definition, defined_at}
use Rattle.ir_functions.specs.Views.{bare_value, definition_sites}

told_first : (ts : List Lexeme) → first_given (λ t. told_definition (said_local t)) ts
    ≡ told_definition (first_given said_local ts)
told_first [] = refl
told_first (t ∷ ts) = refl

told_some : (said : Option Name) → is_some said ≡ true
    → told_definition said ≡ Some (record { 0 = 0 }, mention.DefinesValue said ∷ [])
told_some (Some name) e = refl
told_some None e = absurd cc

told_none : (said : Option Name) → is_some said ≡ false → told_definition said ≡ None
told_none (Some name) e = absurd cc
told_none None e = refl

pub definition_read : (t : Tokenized) (at : ℕ) → is_some (first_given said_local (left_from t at)) ≡ true
    → ReadsAs (λ v. (bare_value v, mentions_at t (definition_sites v))) t (Ok (record { 0 = at }, at + 1))
    (defined_at (left_from t at))
unfolding defined_at
definition_read t at is =
    one_given t at (λ t. told_definition (said_local t))
    (record { 0 = 0 }, mention.DefinesValue (said_at said_local t at) ∷ [])
    (told_first (left_from t at) ∙ (told_some (first_given said_local (left_from t at)) is
    ∙ ap (λ (said : Option Name). Some (record { 0 = 0 }, mention.DefinesValue said ∷ []))
    (sym (said_first said_local (lexemes t) at))))

pub no_definition : (t : Tokenized) (at : ℕ) → is_some (first_given said_local (left_from t at)) ≡ false
    → at ≤ length t.tokens
    → ReadsAs (λ v. (bare_value v, mentions_at t (definition_sites v))) t (Err (CannotGoOn at))
    (defined_at (left_from t at))
unfolding defined_at
no_definition t at isnt within =
    one_not_given t at (λ t. told_definition (said_local t))
    (told_first (left_from t at) ∙ told_none (first_given said_local (left_from t at)) isnt) within

-- ---- what begins with a type

scalar_no_name : (kind : IrType) (taken rest : List Lexeme) → SpellsTypeOf IsScalar kind taken
    → first_given said_local (taken ++ rest) ≡ None
unfolding said_local
scalar_no_name (Int width) taken rest l = rw (l.1.1, l.1.2.0) refl
scalar_no_name Ptr taken rest l = rw l.1 refl
scalar_no_name _ taken rest l = absurd l.0

-- No name stands where a type was read.
pub type_no_name : (t : Tokenized) (at : ℕ) (kind : IrType) (rest : List Lexeme)
    → scalar_type_at (left_from t at) ≡ Ok (kind, rest) → said_at said_local t at ≡ None
type_no_name t at kind rest e =
    let taken = scalar_types.takes (left_from t at) rest kind e in
    said_first said_local (lexemes t) at
    ∙ (ap (first_given said_local) taken.parts ∙ scalar_no_name kind taken.taken rest taken.spelled)
