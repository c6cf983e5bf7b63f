use Rattle.never_stuck.proofs.Runs.{never_stuck}
use Rattle.never_stuck.proofs.laws.no_run_is_stuck.Goals as goal

pub returns : goal.returns
returns c =
    λ signatures f made accepted.
    never_stuck signatures f made accepted accepted.uses
