use Rattle.ir_reader.proofs.OneModule.{one_module}
use Rattle.ir_reader.proofs.laws.one_module.Goals as goal

pub returns : goal.returns
returns c bytes m n first second = one_module bytes m n first second
