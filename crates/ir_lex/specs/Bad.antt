-- What an error says of an input.
use Rattle.std.specs.Prelude.{ℕ, List}
use Rattle.ir_text.specs.Tokens.{IsFirstBad}
use Rattle.ir_lex.specs.declared.error.LexError.{LexError}
use Rattle.ir_lex.specs.declared.error.LexError.TheVariants.{BadByte, OutOfMemory}

-- the byte is the input's first bad one
abbrev pub IsBadFor : List ℕ → LexError → Type 0
IsBadFor input (BadByte at) = IsFirstBad input at
IsBadFor input OutOfMemory = Unit {0}
