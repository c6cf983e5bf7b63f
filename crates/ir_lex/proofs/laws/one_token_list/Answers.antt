use Rattle.ir_lex.proofs.Unique.{one_list}
use Rattle.ir_lex.proofs.laws.one_token_list.Goals as goal

pub returns : goal.returns
returns c bytes a b first second = one_list first second
