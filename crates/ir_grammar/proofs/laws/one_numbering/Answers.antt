use Rattle.ir_grammar.proofs.OneNumbering.{one_numbering}
use Rattle.ir_grammar.proofs.laws.one_numbering.Goals as goal

pub returns : goal.returns
returns c drafts m n first second = one_numbering drafts m n first second
