use Rattle.loop_regions.specs.Turns.{turns}
use Rattle.ir_meaning.specs.Run.{last}
use Rattle.ir_rules.specs.Types.{kind_of}
use Rattle.value_truth.proofs.HeldRegisters.{available_held}
use Rattle.value_truth.proofs.OwnNames.{name_denotes}
use Rattle.value_truth.proofs.names.own_names_are_true.Goals as goal

pub returns : goal.returns
returns c signatures f loops v w home made accepted is r available =
    let held = available_held signatures f made accepted r v available in
    name_denotes (last f r).registers (turns loops (last f r).trail) v w home (kind_of f v) held.value held.set
    held.typed is
