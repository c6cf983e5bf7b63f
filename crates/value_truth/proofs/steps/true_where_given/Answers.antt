use Rattle.value_truth.proofs.AnewSteps.{true_anew}
use Rattle.std.proofs.lemmas.Bool.{false≢true}
use Rattle.std.proofs.Common.{sym, ◌∙◌}
use Rattle.value_truth.proofs.steps.true_where_given.Goals as goal

pub returns : goal.returns
returns c signatures f loops v tree d i block instr made accepted is found stands other behind =
    true_anew signatures f made accepted loops v tree d i block instr is found stands
    (λ r choice x memory events running here place no_phi goes.
    behind r choice x memory events running here place goes)
    (λ r choice registers running edge phi phis held. absurd (false≢true (sym other ∙ phi)))
