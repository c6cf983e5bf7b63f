-- Readings that give, beside what they read, the mentions in it.
use Rattle.std.specs.Prelude.{ℕ, List, [], ◌++◌, Result, Ok}
use Rattle.ir_text.specs.Tokens.{Lexeme}
use Rattle.ir_text.specs.Mentions.{Mention}
use Rattle.ir_parts.specs.Reading.{Read, go_on, keyword_at, punctuation_at}

abbrev pub Telling : Type 0 → Type 0
Telling X = Read (X × List Mention)

-- what was read, with nothing taken
abbrev pub give : {A : Type 0} → A → Telling A
give x ts = Ok ((x, []), ts)

-- the same with some mentions in front
abbrev pub behind : {A : Type 0} → List Mention → Result ((A × List Mention) × List Lexeme) ℕ
    → Result ((A × List Mention) × List Lexeme) ℕ
behind ms reading = go_on reading (λ read rest. Ok ((read.0, ms ++ read.1), rest))

-- one after another
infixl 10 ◌>>=◌
abbrev pub ◌>>=◌ : {A B : Type 0} → Telling A → (A → Telling B) → Telling B
(a >>= f) ts = go_on (a ts) (λ read rest. behind read.1 (f read.0 rest))

-- a reading of what has no mentions
abbrev pub silently : {A : Type 0} → Read A → Telling A
silently a ts = go_on (a ts) (λ x rest. Ok ((x, []), rest))

-- both, one after the other
infixr 20 ◌⊗◌
abbrev pub ◌⊗◌ : {A B : Type 0} → Telling A → Telling B → Telling (A × B)
a ⊗ b = a >>= λ x. b >>= λ y. give (x, y)

-- what says nothing, and then something; and the other way round
infixr 20 ◌▷◌
abbrev pub ◌▷◌ : {B : Type 0} → Telling (Unit {0}) → Telling B → Telling B
a ▷ b = a >>= λ _. b

infixr 20 ◌◁◌
abbrev pub ◌◁◌ : {A : Type 0} → Telling A → Telling (Unit {0}) → Telling A
a ◁ b = a >>= λ x. b >>= λ _. give x

-- what is made of it
abbrev pub made : {A B : Type 0} → (A → B) → Telling A → Telling B
made make a = a >>= λ x. give (make x)

-- this word, this sign, a comma
abbrev pub word_at : List ℕ → Telling (Unit {0})
word_at text = silently (keyword_at text)

abbrev pub sign_at : ℕ → Telling (Unit {0})
sign_at b = silently (punctuation_at b)

abbrev pub comma_at : Telling (Unit {0})
comma_at = sign_at 44
