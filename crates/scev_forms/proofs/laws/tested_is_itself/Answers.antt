use Rattle.scev_forms.proofs.Outcomes.{tested_same}
use Rattle.scev_forms.proofs.laws.tested_is_itself.Goals as goal

pub returns : goal.returns
returns c = tested_same
