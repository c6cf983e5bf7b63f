-- What the token at a place says.
use Rattle.std.proofs.Common.{◌≡◌, ℕ, ◌+◌, zero, suc, ◌≤◌, true, false, List, [], ◌∷◌, length, drop, Option, Some, None, Ok, Err, refl, sym, ap, ◌∙◌}
use Rattle.std.specs.Prelude.{slice_get, unwrap_or}
use Rattle.std.specs.Option.{is_some, option_and_then}
use Rattle.ir_text.specs.Tokens.{Lexeme}
use Rattle.ir_text.specs.Written.{Name, Text}
use Rattle.ir_text.specs.Said.{said_local}
use Rattle.ir_text.specs.Mentions as mention
use Rattle.ir_text.specs.Mentions.{Mention}
use Rattle.ir_lex.specs.Tokenized.{Tokenized, lexemes}
use Rattle.ir_parts.specs.Reading.{left_from, first_given, ReadsAs}
use Rattle.ir_parts.specs.declared.fault.ItemFault.TheVariants.{CannotGoOn}
use Rattle.ir_parts.specs.Places.{said_at, mentions_at}
use Rattle.ir_parts.proofs.Places.{one_given, one_not_given}
use Rattle.ir_body.specs.Operands.{told_block, block_name_at}
use Rattle.ir_body.specs.Views.{bare_block_name, block_name_sites}

pub said_first : {A : Type 0} (said : Lexeme → Option A) (ts : List Lexeme) (at : ℕ)
    → option_and_then said (slice_get ts at) ≡ first_given said (drop at ts)
said_first said [] zero = refl
said_first said [] (suc at) = refl
said_first said (t ∷ ts) zero = refl
said_first said (t ∷ ts) (suc at) = said_first said ts at

-- what is told of a block
told_first : (ts : List Lexeme) → first_given (λ t. told_block (said_local t)) ts
    ≡ told_block (first_given said_local ts)
told_first [] = refl
told_first (t ∷ ts) = refl

told_some : (said : Option Name) → is_some said ≡ true
    → told_block said ≡ Some (record { 0 = 0 }, mention.UsesBlock (unwrap_or said (Text [])) ∷ [])
told_some (Some name) e = refl
told_some None e = absurd cc

told_none : (said : Option Name) → is_some said ≡ false → told_block said ≡ None
told_none (Some name) e = absurd cc
told_none None e = refl

pub block_name_read : (t : Tokenized) (at : ℕ) → is_some (first_given said_local (left_from t at)) ≡ true
    → ReadsAs (λ id. (bare_block_name id, mentions_at t (block_name_sites id))) t (Ok (record { 0 = at }, at + 1))
    (block_name_at (left_from t at))
unfolding block_name_at
block_name_read t at is =
    one_given t at (λ t. told_block (said_local t))
    (record { 0 = 0 }, mention.UsesBlock (unwrap_or (said_at said_local t at) (Text [])) ∷ [])
    (told_first (left_from t at) ∙ (told_some (first_given said_local (left_from t at)) is
    ∙ ap (λ (said : Option Name). Some (record { 0 = 0 }, mention.UsesBlock (unwrap_or said (Text [])) ∷ []))
    (sym (said_first said_local (lexemes t) at))))

pub no_block_name : (t : Tokenized) (at : ℕ) → is_some (first_given said_local (left_from t at)) ≡ false
    → at ≤ length t.tokens
    → ReadsAs (λ id. (bare_block_name id, mentions_at t (block_name_sites id))) t (Err (CannotGoOn at))
    (block_name_at (left_from t at))
unfolding block_name_at
no_block_name t at isnt within =
    one_not_given t at (λ t. told_block (said_local t))
    (told_first (left_from t at) ∙ told_none (first_given said_local (left_from t at)) isnt) within
