use Rattle.ir_meaning.specs.Run.{last}
use Rattle.value_truth.proofs.Fresh.{fresh_available}
use Rattle.value_truth.proofs.names.always_is_just_after.Goals as goal

pub returns : goal.returns
returns c signatures f loops v tree accepted always r fresh =
    always r (fresh_available signatures f accepted (last f r) v fresh)
