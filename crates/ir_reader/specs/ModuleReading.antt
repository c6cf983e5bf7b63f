-- What the answer of the reader says of the bytes.
use Rattle.std.specs.Prelude.{ℕ, List, take, drop}
use Rattle.ir_lex.specs.Tokenized.{Tokenized, placed}
use Rattle.ir_grammar.specs.Spelled.{IsRefusal, IsNotInGrammar, IsUnsupported}
use Rattle.ir_reader.specs.declared.fault.ReadFault.{ReadFault}
use Rattle.ir_reader.specs.declared.fault.ReadFault.TheVariants.{NotInGrammar, Unsupported, OutOfMemory}

-- The bytes are refused so, unless memory ran out.
abbrev pub IsFaultOf : List ℕ → ReadFault → Type 0
IsFaultOf bytes (NotInGrammar at) = IsNotInGrammar bytes at
IsFaultOf bytes (Unsupported word at) = IsUnsupported bytes word at
IsFaultOf bytes OutOfMemory = Unit {0}

-- The text is refused at this token, or, where there is none, where all tokens end.
abbrev pub IsRefusedAt : Tokenized → ℕ → ℕ → Type 0
IsRefusedAt t at end = IsRefusal t.bytes (take at (placed t)) (drop at (placed t)) end
