-- What a call says of the tokens that it read from a place on: they are a sentence, or where they stop being the
-- beginning of one.
use Rattle.std.specs.Prelude.{◌≡◌, ℕ, List, [], ◌∷◌, ◌++◌, Result, Ok, Err}
use Rattle.ir_text.specs.Tokens.{Lexeme}
use Rattle.ir_lex.specs.Tokenized.{Tokenized}
use Rattle.ir_parts.specs.declared.fault.ItemFault.{ItemFault}
use Rattle.ir_parts.specs.declared.fault.ItemFault.TheVariants.{CannotGoOn, OutOfMemory}
use Rattle.ir_parts.specs.Reading.{left_from}

-- Some sentence begins with these tokens.
pub record Begins {X : Type 0} (L : X → List Lexeme → Type 0) (ts : List Lexeme) : Type 0 where
  pub whole : X
  pub others : List Lexeme
  pub sentence : L whole (ts ++ others)

-- No sentence begins with these tokens and the first of those behind them.
abbrev pub NoneGoesOn : {X : Type 0} → (X → List Lexeme → Type 0) → List Lexeme → List Lexeme → Type 0
NoneGoesOn L taken rest = (next : Lexeme) (behind : List Lexeme) → rest ≡ next ∷ behind
    → Begins L (taken ++ next ∷ []) → ⊥

-- The tokens from a place to another are a sentence for x, and no sentence goes on with the token that stands there.
pub record IsSentence {X : Type 0} (L : X → List Lexeme → Type 0) (t : Tokenized) (from after : ℕ) (x : X) : Type 0
  where
    pub taken : List Lexeme
    pub parts : left_from t from ≡ taken ++ left_from t after
    pub spelled : L x taken
    pub no_longer : NoneGoesOn L taken (left_from t after)

-- The tokens from a place to another begin a sentence and are none, and none goes on with the token that stands there.
pub record IsBroken {X : Type 0} (L : X → List Lexeme → Type 0) (t : Tokenized) (from at : ℕ) : Type 0 where
  pub taken : List Lexeme
  pub parts : left_from t from ≡ taken ++ left_from t at
  pub begun : Begins L taken
  pub no_sentence : (x : X) → L x taken → ⊥
  pub no_longer : NoneGoesOn L taken (left_from t at)

-- What the result of a call says, whose language is L.
abbrev pub Tells : {X : Type 0} → (X → List Lexeme → Type 0) → Tokenized → ℕ → Result (X × ℕ) ItemFault → Type 0
Tells L t from (Ok read) = IsSentence L t from read.1 read.0
Tells L t from (Err (CannotGoOn at)) = IsBroken L t from at
Tells L t from (Err OutOfMemory) = Unit {0}

-- The same of a call that gives the place alone.
abbrev pub TellsPlace : (List Lexeme → Type 0) → Tokenized → ℕ → Result ℕ ItemFault → Type 0
TellsPlace L t from (Ok at) = IsSentence (λ (x : Unit {0}). L) t from at tt
TellsPlace L t from (Err (CannotGoOn at)) = IsBroken (λ (x : Unit {0}). L) t from at
TellsPlace L t from (Err OutOfMemory) = Unit {0}
