use Rattle.ir_meaning.proofs.RefinementLaws.{refines_itself}
use Rattle.ir_meaning.proofs.laws.refinement_is_reflexive.Goals as goal

pub returns : goal.returns
returns c = refines_itself
