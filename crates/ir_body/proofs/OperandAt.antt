-- What operand the token at a place is.
use Rattle.std.proofs.Common.{◌≡◌, ℕ, ◌+◌, Bool, true, false, cond, List, [], ◌∷◌, Option, Some, None, refl, sym, ap, ◌∙◌}
use Rattle.std.specs.Prelude.{unwrap_or}
use Rattle.std.specs.Option.{is_some, option_map}
use Rattle.std.specs.Prelude.{codes}
use Rattle.std.specs.Str.{bytes_eq}
use Rattle.std.specs.Str.Parse.{signed_digits_value}
use Rattle.ir_model.specs.declared.op.Operand.{Operand}
use Rattle.ir_model.specs.declared.op.Operand.TheVariants as operand
use Rattle.ir_text.specs.declared.token.TokenKind.{TokenKind}
use Rattle.ir_text.specs.declared.token.TokenKind.TheVariants.{Word, Label, Numeral, Local, Global, Metadata, Group, Quoted, Sign, Dots}
use Rattle.ir_text.specs.Tokens.{Lexeme}
use Rattle.ir_text.specs.Written.{Name, Text}
use Rattle.ir_text.specs.Said.{said_local, said_global}
use Rattle.ir_text.specs.Mentions as mention
use Rattle.ir_text.specs.Mentions.{Mention}
use Rattle.ir_model.specs.Sites.{operand_sites}
use Rattle.ir_text.specs.Sites.{bare_operand}
use Rattle.ir_lex.specs.Tokenized.{Tokenized, lexemes}
use Rattle.ir_parts.specs.Reading.{left_from, first_given}
use Rattle.ir_parts.specs.Places.{said_at, mentions_at}
use Rattle.ir_parts.specs.Literals.{word_operand}
use Rattle.ir_body.specs.Operands.{told_register, told_global, told_word, operand_of_parts, operand_of}
use Rattle.ir_body.proofs.SaidAt.{said_first}

-- an operand without its id, and what it mentions
abbrev pub told_of : Tokenized → Operand → Operand × List Mention
told_of t value = (bare_operand value, mentions_at t (operand_sites value))

-- a token at a place
abbrev pub StandsAt : Tokenized → ℕ → TokenKind → List ℕ → Type 0
StandsAt t at kind text = left_from t at ≡ record { kind = kind; text = text } ∷ left_from t (at + 1)

first_is : {A : Type 0} (what : Lexeme → Option A) (t : Tokenized) (at : ℕ) (kind : TokenKind) (text : List ℕ)
    → StandsAt t at kind text → first_given what (left_from t at) ≡ what (record { kind = kind; text = text })
first_is what t at kind text stands = ap (first_given what) stands

said_there : {A : Type 0} (said : Lexeme → Option A) (t : Tokenized) (at : ℕ) (kind : TokenKind) (text : List ℕ)
    → StandsAt t at kind text → said_at said t at ≡ said (record { kind = kind; text = text })
said_there said t at kind text stands = said_first said (lexemes t) at ∙ first_is said t at kind text stands

-- what is told of a register, of a global and of a word
register_told : (said : Option Name) (ms : List Mention) → mention.UsesValue (unwrap_or said (Text [])) ∷ [] ≡ ms
    → is_some said ≡ true → told_register said ≡ Some (operand.Reg (record { 0 = 0 }), ms)
register_told (Some name) ms e is = ap (λ (ms : List Mention). Some (operand.Reg (record { 0 = 0 }), ms)) e
register_told None ms e is = absurd cc

global_told : (said : Option (List ℕ)) (ms : List Mention) → mention.UsesGlobal (unwrap_or said []) ∷ [] ≡ ms
    → is_some said ≡ true → told_global said ≡ Some (operand.Global 0, ms)
global_told (Some name) ms e is = ap (λ (ms : List Mention). Some (operand.Global 0, ms)) e
global_told None ms e is = absurd cc

found_register : (t : Tokenized) (at : ℕ) (said : Option Name) (found : Option Operand)
    → mention.UsesValue (unwrap_or said (Text [])) ∷ []
    ≡ mentions_at t (operand_sites (operand.Reg (record { 0 = at })))
    → found ≡ cond (is_some said) (Some (operand.Reg (record { 0 = at }))) None
    → told_register said ≡ option_map (told_of t) found
found_register t at (Some name) found e f = register_told (Some name) _ e refl ∙ ap (option_map (told_of t)) (sym f)
found_register t at None found e f = ap (option_map (told_of t)) (sym f)

found_global : (t : Tokenized) (at : ℕ) (said : Option (List ℕ)) (found : Option Operand)
    → mention.UsesGlobal (unwrap_or said []) ∷ [] ≡ mentions_at t (operand_sites (operand.Global at))
    → found ≡ cond (is_some said) (Some (operand.Global at)) None
    → told_global said ≡ option_map (told_of t) found
found_global t at (Some name) found e f = global_told (Some name) _ e refl ∙ ap (option_map (told_of t)) (sym f)
found_global t at None found e f = ap (option_map (told_of t)) (sym f)

pub register_at : (t : Tokenized) (at : ℕ) (text : List ℕ) (found : Option Operand) → StandsAt t at Local text
    → found ≡ cond (is_some (said_local (record { kind = Local; text = text })))
    (Some (operand.Reg (record { 0 = at }))) None
    → first_given operand_of (left_from t at) ≡ option_map (told_of t) found
unfolding operand_of_parts
register_at t at text found stands is =
    first_is operand_of t at Local text stands
    ∙ found_register t at (said_local (record { kind = Local; text = text })) found
    (ap (λ (said : Option Name). mention.UsesValue (unwrap_or said (Text [])) ∷ [])
    (sym (said_there said_local t at Local text stands))) is

pub global_at : (t : Tokenized) (at : ℕ) (text : List ℕ) (found : Option Operand) → StandsAt t at Global text
    → found ≡ cond (is_some (said_global (record { kind = Global; text = text }))) (Some (operand.Global at)) None
    → first_given operand_of (left_from t at) ≡ option_map (told_of t) found
unfolding operand_of_parts
global_at t at text found stands is =
    first_is operand_of t at Global text stands
    ∙ found_global t at (said_global (record { kind = Global; text = text })) found
    (ap (λ (said : Option (List ℕ)). mention.UsesGlobal (unwrap_or said []) ∷ [])
    (sym (said_there said_global t at Global text stands))) is

pub numeral_at : (t : Tokenized) (at : ℕ) (text : List ℕ) (value : Operand) → StandsAt t at Numeral text
    → value ≡ operand.Num (signed_digits_value 10 text)
    → first_given operand_of (left_from t at) ≡ Some (told_of t value)
unfolding operand_of_parts
numeral_at t at text value stands is = first_is operand_of t at Numeral text stands
    ∙ ap (λ v. Some (told_of t v)) (sym is)

-- one entry of a table of words, whose operand mentions nothing
entry_told : (t : Tokenized) (b : Bool) (value : Operand) (rest : Option Operand)
    → told_of t value ≡ (value, [])
    → told_word rest ≡ option_map (told_of t) rest
    → told_word (cond b (Some value) rest) ≡ option_map (told_of t) (cond b (Some value) rest)
entry_told t true value rest plain others = ap (λ (x : Operand × List Mention). Some x) (sym plain)
entry_told t false value rest plain others = others

word_told : (t : Tokenized) (text : List ℕ) → told_word (word_operand text) ≡ option_map (told_of t) (word_operand text)
unfolding word_operand
word_told t text =
    entry_told t (bytes_eq text (codes "true")) _ _ refl
    (entry_told t (bytes_eq text (codes "false")) _ _ refl
    (entry_told t (bytes_eq text (codes "null")) _ _ refl
    (entry_told t (bytes_eq text (codes "undef")) _ _ refl
    (entry_told t (bytes_eq text (codes "poison")) _ _ refl refl))))

pub word_at : (t : Tokenized) (at : ℕ) (text : List ℕ) (found : Option Operand) → StandsAt t at Word text
    → found ≡ word_operand text
    → first_given operand_of (left_from t at) ≡ option_map (told_of t) found
unfolding operand_of_parts
word_at t at text found stands is =
    first_is operand_of t at Word text stands ∙ (word_told t text ∙ ap (option_map (told_of t)) (sym is))

-- a token of another kind
pub no_operand_at : (t : Tokenized) (at : ℕ) (kind : TokenKind) (text : List ℕ) → StandsAt t at kind text
    → (kind ≡ Local → ⊥) → (kind ≡ Global → ⊥) → (kind ≡ Numeral → ⊥) → (kind ≡ Word → ⊥)
    → first_given operand_of (left_from t at) ≡ None
unfolding operand_of_parts
no_operand_at t at kind text stands a b c d = first_is operand_of t at kind text stands ∙ other kind text a b c d
  where
    other : (kind : TokenKind) (text : List ℕ) → (kind ≡ Local → ⊥) → (kind ≡ Global → ⊥) → (kind ≡ Numeral → ⊥)
        → (kind ≡ Word → ⊥) → operand_of_parts kind text ≡ None
    other Local text a b c d = absurd (a refl)
    other Global text a b c d = absurd (b refl)
    other Numeral text a b c d = absurd (c refl)
    other Word text a b c d = absurd (d refl)
    other Label text a b c d = refl
    other Metadata text a b c d = refl
    other Group text a b c d = refl
    other Quoted text a b c d = refl
    other (Sign s) text a b c d = refl
    other Dots text a b c d = refl
