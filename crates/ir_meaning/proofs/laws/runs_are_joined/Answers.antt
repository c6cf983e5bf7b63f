use Rattle.ir_meaning.proofs.RunInvariants.{after-append}
use Rattle.ir_meaning.proofs.laws.runs_are_joined.Goals as goal

pub returns : goal.returns
returns c = after-append
