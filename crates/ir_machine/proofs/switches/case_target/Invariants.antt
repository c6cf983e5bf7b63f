use Rattle.std.proofs.Common.{◌≡◌, drop}
use Rattle.ir_meaning.specs.Step.{case_target as target_of_case}
use Rattle.ir_machine.proofs.switches.case_target.Given as goal

-- the target among the cases from here on is that among all
abbrev pub invariant-loop-case : goal.invariant-loop-case
invariant-loop-case l =
    target_of_case l.w.bits (drop l.case-index l.cases) l.other.0 l.x ≡ target_of_case l.w.bits l.cases l.other.0 l.x
