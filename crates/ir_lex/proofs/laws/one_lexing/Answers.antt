use Rattle.ir_lex.proofs.OneLexing.{one_lexing}
use Rattle.ir_lex.proofs.laws.one_lexing.Goals as goal

pub returns : goal.returns
returns c at bytes a b stop other_stop first second = one_lexing first second
