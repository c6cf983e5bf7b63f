use Rattle.value_truth.proofs.StaysTrue.{always}
use Rattle.value_truth.proofs.laws.what_is_true_stays_true.Goals as goal

pub returns : goal.returns
returns c signatures f loops v tree made accepted scope anew r available =
    always signatures f made accepted loops v tree scope anew r available
