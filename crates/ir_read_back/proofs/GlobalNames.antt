-- The names of globals are printed as themselves.
use Rattle.std.proofs.Common.{List, [], ◌∷◌, ℕ, subst}
use Rattle.ir_text.specs.Written.{IsGlobal}
use Rattle.ir_text.specs.Language.{one}
use Rattle.ir_text.specs.Mentions.{silent}
use Rattle.ir_grammar.specs.Printing.{name_text}
use Rattle.ir_printer.proofs.QuotedNames.{name_says_global}
use Rattle.ir_lex.proofs.Plain.{Stops}
use Rattle.ir_read_back.proofs.Real.{AreReal}
use Rattle.ir_read_back.proofs.ByteNames.{global_bytes}
use Rattle.ir_read_back.proofs.Sayings.{global_writes}
use Rattle.ir_read_back.proofs.Writes.{Rewrites}

pub global_rewrites : (name : List ℕ)
    → Rewrites Stops (silent (one (IsGlobal name))) (silent (one (IsGlobal name))) [] (64 ∷ name_text name)
global_rewrites name = record {
  writes = λ old ts spelled real.
      let t = spelled.1.0 in
      let reals : AreReal (t ∷ []) = subst AreReal spelled.1.1 real in
      global_writes (name_text name) name (name_says_global name (global_bytes name t spelled.1.2 reals.0.bytes));
}
