use Rattle.value_truth.proofs.AnewSteps.{true_anew}
use Rattle.std.proofs.lemmas.Bool.{false≢true}
use Rattle.std.proofs.Common.{sym, ◌∙◌}
use Rattle.value_truth.proofs.steps.true_where_entered.Goals as goal

pub returns : goal.returns
returns c signatures f loops v tree d i block instr made accepted is found stands phi entered =
    true_anew signatures f made accepted loops v tree d i block instr is found stands
    (λ r choice x memory events running here place no_phi goes. absurd (false≢true (sym no_phi ∙ phi)))
    (λ r choice registers running edge is_phi phis held.
    entered r choice registers running edge phis held)
