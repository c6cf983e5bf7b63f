use Rattle.ir_read_back.proofs.ReadsBack.{reads_back}
use Rattle.ir_read_back.proofs.laws.reads_back.Goals as goal

pub returns : goal.returns
returns c bytes m all few spells = reads_back bytes m all few spells
