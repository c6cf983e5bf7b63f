use Rattle.ir_meaning.proofs.RefinementComposes.{refinement_joins}
use Rattle.ir_meaning.proofs.laws.refinement_composes.Goals as goal

pub returns : goal.returns
returns c = refinement_joins
