use Rattle.std.proofs.Common.{sym, ◌∙◌}
use Rattle.ir_text.specs.Said.{said_local}
use Rattle.ir_lex.specs.Tokenized.{lexemes}
use Rattle.ir_parts.specs.Reading.{left_from, first_given}
use Rattle.ir_body.proofs.SaidAt.{said_first}
use Rattle.ir_functions.proofs.LabelAt.{is_none}
use Rattle.ir_functions.proofs.lines.read_line.Goals as goal

pub unnamed_line-requires-clause-nameless : goal.unnamed_line-requires-clause-nameless
unnamed_line-requires-clause-nameless c =
    let t = c.args.tokens.now in
    said_first said_local (lexemes t) c.args.from
    ∙ is_none (first_given said_local (left_from t c.args.from)) (sym c.if-starts_local.ensures.value)
