use Rattle.std.proofs.Common.{take}
use Rattle.ir_lex.specs.Tokenized.{lexemes}
use Rattle.ir_names.specs.Meant.{AreMeaningsOf}
use Rattle.ir_names.proofs.meanings.Meanings.of.Given as goal

abbrev pub invariant-loop-at : goal.invariant-loop-at
invariant-loop-at l = AreMeaningsOf l.known.entries (take l.at (lexemes l.tokens))
