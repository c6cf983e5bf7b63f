use Rattle.ir_read_back.proofs.WellMade.{spelled_is_well_made}
use Rattle.ir_read_back.proofs.laws.spelled_is_well_made.Goals as goal

pub returns : goal.returns
returns c bytes m spells = spelled_is_well_made bytes m spells
