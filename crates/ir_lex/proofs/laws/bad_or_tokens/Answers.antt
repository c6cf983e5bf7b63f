use Rattle.ir_lex.proofs.Unique.{no_list}
use Rattle.ir_lex.proofs.laws.bad_or_tokens.Goals as goal

pub returns : goal.returns
returns c bytes at ts bad tokens = no_list bad tokens
