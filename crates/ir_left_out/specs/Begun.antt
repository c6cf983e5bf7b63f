-- The beginning of a call, up to its type, and how deep its tokens stand in brackets, seen from their end.
use Rattle.std.specs.Prelude.{◌≡◌, ℕ, zero, suc, ◌+◌, Bool, true, false, ◌||◌, ◌&&◌, ◌==◌, if◌then◌else◌, List, [], ◌∷◌, ◌++◌, Option, Some, None, codes}
use Rattle.std.specs.Option.{option_and_then}
use Rattle.std.specs.Str.{bytes_eq}
use Rattle.ir_text.specs.declared.token.TokenKind.{TokenKind}
use Rattle.ir_text.specs.declared.token.TokenKind.TheVariants.{Word, Sign}
use Rattle.ir_text.specs.Tokens.{Lexeme}
use Rattle.ir_text.specs.Said.{said_global}
use Rattle.ir_grammar.specs.Operations.{is_intrinsic}
use Rattle.ir_grammar.specs.Spelled.{begun_call}
use Rattle.ir_parts.specs.Reading.{Read, ◌>>=◌, pure, keyword_at, begins}
use Rattle.ir_parts.specs.TypeReading.{returned_type_at}
use Rattle.ir_parts.specs.WordsReading.{run_at}

-- ---- what is found

-- whether the name of a global begins `llvm.`
abbrev pub names_intrinsic : Option (List ℕ) → Bool
names_intrinsic None = false
names_intrinsic (Some name) = is_intrinsic name

-- a token that is one
abbrev pub is_intrinsic_token : Lexeme → Bool
is_intrinsic_token t = names_intrinsic (said_global t)

-- The tokens end with `call`, its passed-on words and its type.
abbrev pub EndsCall : List Lexeme → Type 0
EndsCall before = (front call : List Lexeme) × (before ≡ front ++ call) × begun_call call

-- They do, and behind them stands such a global.
abbrev pub CallsIntrinsic : List Lexeme → List Lexeme → Type 0
CallsIntrinsic before behind = EndsCall before × (begins is_intrinsic_token behind ≡ true)

-- ---- how it is read

-- the beginning of a call
unfoldable pub begun_call_at : Read (Unit {0})
begun_call_at = do
  _ ← keyword_at (codes "call")
  _ ← run_at
  _ ← returned_type_at
  pure tt

-- ---- where it begins

-- the signs of brackets
abbrev pub is_opening : ℕ → Bool
is_opening b = (b == 40) || ((b == 91) || (b == 123))

abbrev pub is_closing : ℕ → Bool
is_closing b = (b == 41) || ((b == 93) || (b == 125))

-- one bracket less
abbrev pub out_of : ℕ → Option ℕ
out_of zero = None
out_of (suc depth) = Some depth

-- How deep a place stands before a sign.
unfoldable pub deeper_by_sign : ℕ → ℕ → Option ℕ
deeper_by_sign b depth = if is_closing b then Some (depth + 1) else (if is_opening b then out_of depth else Some depth)

-- How deep a place stands before a token, where the place behind it stands so deep. None of what no run of words has:
-- the word `call` outside brackets, and a bracket that none closes.
unfoldable pub deeper : TokenKind → List ℕ → ℕ → Option ℕ
deeper Word text depth = if (depth == 0) && bytes_eq text (codes "call") then None else Some depth
deeper (Sign b) text depth = deeper_by_sign b depth
deeper _ text depth = Some depth

-- the same before all these tokens
abbrev pub depth_before : List Lexeme → Option ℕ
depth_before [] = Some 0
depth_before (t ∷ ts) = option_and_then (λ depth. deeper t.kind t.text depth) (depth_before ts)
