-- Reading from the front of a list of tokens: what was read, and the tokens that are left; or, where the first of them
-- can't go on, how many are left from it on, which is 0 at the end.
use Rattle.std.specs.Prelude.{◌≡◌, ℕ, ◌-◌, ◌≤◌, zero, suc, Bool, true, false, ◌&&◌, if◌then◌else◌, List, [], ◌∷◌, length, drop, take, Option, Some, None, Result, Ok, Err}
use Rattle.std.specs.Str.{bytes_eq}
use Rattle.ir_text.specs.declared.token.TokenKind.{TokenKind}
use Rattle.ir_text.specs.declared.token.TokenKind.TheVariants.{Word}
use Rattle.ir_text.specs.Tokens.{Lexeme}
use Rattle.ir_text.specs.PassedOn.{is_sign_kind}
use Rattle.ir_lex.specs.Tokenized.{Tokenized, lexemes}
use Rattle.ir_parts.specs.declared.fault.ItemFault.{ItemFault}
use Rattle.ir_parts.specs.declared.fault.ItemFault.TheVariants.{CannotGoOn, OutOfMemory}

abbrev pub Read : Type 0 → Type 0
Read X = List Lexeme → Result (X × List Lexeme) ℕ

-- ---- how readings are put together

-- what was read, with nothing taken
abbrev pub pure : {A : Type 0} → A → Read A
pure x ts = Ok (x, ts)

-- no token can go on
abbrev pub refuse : {A : Type 0} → Read A
refuse ts = Err (length ts)

abbrev pub go_on : {A B : Type 0} → Result (A × List Lexeme) ℕ → (A → Read B) → Result (B × List Lexeme) ℕ
go_on (Ok read) f = f read.0 read.1
go_on (Err left) f = Err left

-- one after another
infixl 10 ◌>>=◌
abbrev pub ◌>>=◌ : {A B : Type 0} → Read A → (A → Read B) → Read B
(a >>= f) ts = go_on (a ts) f

-- both, one after the other
infixr 20 ◌⊗◌
abbrev pub ◌⊗◌ : {A B : Type 0} → Read A → Read B → Read (A × B)
a ⊗ b = a >>= λ x. b >>= λ y. pure (x, y)

-- what says nothing, and then something; and the other way round
infixr 20 ◌▷◌
abbrev pub ◌▷◌ : {B : Type 0} → Read (Unit {0}) → Read B → Read B
a ▷ b = a >>= λ _. b

infixr 20 ◌◁◌
abbrev pub ◌◁◌ : {A : Type 0} → Read A → Read (Unit {0}) → Read A
a ◁ b = a >>= λ x. b >>= λ _. pure x

-- what is made of it
abbrev pub made : {A B : Type 0} → (A → B) → Read A → Read B
made make a = a >>= λ x. pure (make x)

-- it, and the tokens that it took
unfoldable pub taking : {A : Type 0} → Read A → Read (A × List Lexeme)
taking a ts = go_on (a ts) (λ x rest. Ok ((x, take (length ts - length rest) ts), rest))

-- what the first token is, where it is of a kind
abbrev pub given : {A : Type 0} → Option A → List Lexeme → ℕ → Result (A × List Lexeme) ℕ
given (Some x) rest left = Ok (x, rest)
given None rest left = Err left

unfoldable pub one_at : {A : Type 0} → (Lexeme → Option A) → Read A
one_at what [] = Err 0
one_at what (t ∷ ts) = given (what t) ts (suc (length ts))

-- ---- single tokens

-- whether the first token passes a test
abbrev pub begins : (Lexeme → Bool) → List Lexeme → Bool
begins test [] = false
begins test (t ∷ ts) = test t

-- a token that passes a test
unfoldable pub token_at : (Lexeme → Bool) → Read (Unit {0})
token_at test ts = if begins test ts then Ok (tt, drop 1 ts) else Err (length ts)

abbrev pub is_word_kind : TokenKind → Bool
is_word_kind Word = true
is_word_kind _ = false

-- this word, this sign
abbrev pub is_keyword : List ℕ → Lexeme → Bool
is_keyword text t = is_word_kind t.kind && bytes_eq t.text text

abbrev pub is_punctuation : ℕ → Lexeme → Bool
is_punctuation b t = is_sign_kind b t.kind && bytes_eq t.text (b ∷ [])

abbrev pub keyword_at : List ℕ → Read (Unit {0})
keyword_at text = token_at (is_keyword text)

abbrev pub punctuation_at : ℕ → Read (Unit {0})
punctuation_at b = token_at (is_punctuation b)

-- what the first token gives
abbrev pub first_given : {A : Type 0} → (Lexeme → Option A) → List Lexeme → Option A
first_given what [] = None
first_given what (t ∷ ts) = what t

-- ---- choices and repetitions

-- the one reading where the first token passes the test, else the other
abbrev pub choose : {A : Type 0} → (Lexeme → Bool) → Read A → Read A → Read A
choose test there other ts = if begins test ts then there ts else other ts

-- as many as begin with a token that passes the test, at most so many
unfoldable pub repeat_at : {A : Type 0} → (Lexeme → Bool) → Read A → ℕ → Read (List A)
repeat_at test item zero = pure []
repeat_at test item (suc most) = choose test (item >>= λ x. repeat_at test item most >>= λ xs. pure (x ∷ xs)) (pure [])

abbrev pub repeated_at : {A : Type 0} → (Lexeme → Bool) → Read A → Read (List A)
repeated_at test item ts = repeat_at test item (length ts) ts

-- ---- what the code reads

-- the tokens from a place on
abbrev pub left_from : Tokenized → ℕ → List Lexeme
left_from t at = drop at (lexemes t)

-- A function that reads from a place gives what a reading gives, seen by view, and the place behind it, unless memory
-- runs out.
abbrev pub ReadsAs : {X Y : Type 0} → (X → Y) → Tokenized → Result (X × ℕ) ItemFault → Result (Y × List Lexeme) ℕ
    → Type 0
ReadsAs view t (Ok read) reading = reading ≡ Ok (view read.0, left_from t read.1)
ReadsAs view t (Err (CannotGoOn at)) reading = (reading ≡ Err (length t.tokens - at)) × (at ≤ length t.tokens)
ReadsAs view t (Err OutOfMemory) reading = Unit {0}

abbrev pub Reads : {X : Type 0} → Tokenized → Result (X × ℕ) ItemFault → Result (X × List Lexeme) ℕ → Type 0
Reads t result reading = ReadsAs (λ x. x) t result reading

-- The same of a function that gives the place alone.
abbrev pub Passes : Tokenized → Result ℕ ItemFault → Result (Unit {0} × List Lexeme) ℕ → Type 0
Passes t (Ok at) reading = reading ≡ Ok (tt, left_from t at)
Passes t (Err (CannotGoOn at)) reading = (reading ≡ Err (length t.tokens - at)) × (at ≤ length t.tokens)
Passes t (Err OutOfMemory) reading = Unit {0}
