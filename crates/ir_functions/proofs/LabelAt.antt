-- What the label at a place defines.
use Rattle.std.proofs.Common.{◌≡◌, ℕ, ◌+◌, true, false, List, [], ◌∷◌, Option, Some, None, Ok, refl, sym, ap, ◌∙◌}
use Rattle.std.specs.Option.{is_some}
use Rattle.ir_text.specs.Tokens.{Lexeme}
use Rattle.ir_text.specs.Written.{Name}
use Rattle.ir_text.specs.Said.{said_label}
use Rattle.ir_text.specs.Mentions as mention
use Rattle.ir_model.specs.Sites.{DefinesBlock}
use Rattle.ir_lex.specs.Tokenized.{Tokenized, lexemes}
use Rattle.ir_parts.specs.Reading.{left_from, first_given, begins}
use Rattle.ir_parts.specs.Places.{said_at, mentions_at}
use Rattle.ir_parts.proofs.Places.{one_given}
use Rattle.ir_parts.proofs.Readers.{chosen_first, chosen_other}
use Rattle.ir_body.proofs.SaidAt.{said_first}
use Rattle.ir_functions.specs.Functions.{told_label, is_label, label_at, no_label_at, block_name_at}

begins_so : (ts : List Lexeme) → begins is_label ts ≡ is_some (first_given said_label ts)
begins_so [] = refl
begins_so (t ∷ ts) = refl

told_first : (ts : List Lexeme) → first_given (λ t. told_label (said_label t)) ts
    ≡ told_label (first_given said_label ts)
told_first [] = refl
told_first (t ∷ ts) = refl

told_some : (said : Option Name) → is_some said ≡ true
    → told_label said ≡ Some (record { 0 = 0 }, mention.DefinesBlock said ∷ [])
told_some (Some name) e = refl
told_some None e = absurd cc

pub is_none : (said : Option Name) → is_some said ≡ false → said ≡ None
is_none (Some name) e = absurd cc
is_none None e = refl

pub label_read : (t : Tokenized) (at : ℕ) → is_some (first_given said_label (left_from t at)) ≡ true
    → block_name_at (left_from t at)
    ≡ Ok ((record { 0 = 0 }, mentions_at t (DefinesBlock at ∷ [])), left_from t (at + 1))
unfolding block_name_at label_at
label_read t at is =
    chosen_first is_label label_at no_label_at (left_from t at) (begins_so (left_from t at) ∙ is)
    ∙ one_given t at (λ t. told_label (said_label t))
    (record { 0 = 0 }, mention.DefinesBlock (said_at said_label t at) ∷ [])
    (told_first (left_from t at) ∙ (told_some (first_given said_label (left_from t at)) is
    ∙ ap (λ (said : Option Name). Some (record { 0 = 0 }, mention.DefinesBlock said ∷ []))
    (sym (said_first said_label (lexemes t) at))))

pub no_label_read : (t : Tokenized) (at : ℕ) → is_some (first_given said_label (left_from t at)) ≡ false
    → block_name_at (left_from t at) ≡ Ok ((record { 0 = 0 }, mentions_at t (DefinesBlock at ∷ [])), left_from t at)
unfolding block_name_at no_label_at
no_label_read t at isnt =
    chosen_other is_label label_at no_label_at (left_from t at) (begins_so (left_from t at) ∙ isnt)
    ∙ ap (λ (said : Option Name). Ok ((record { 0 = 0 }, mention.DefinesBlock said ∷ []), left_from t at))
    (sym (said_first said_label (lexemes t) at ∙ is_none (first_given said_label (left_from t at)) isnt))
