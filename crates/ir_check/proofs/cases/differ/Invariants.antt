use Rattle.std.proofs.Common.{take}
use Rattle.ir_rules.specs.Types.{width_of}
use Rattle.ir_check.proofs.CasesDiffer.{AreSeen}
use Rattle.ir_check.proofs.cases.differ.Given as goal

-- the cases so far are those of the set, and no two of them are one
abbrev pub invariant-loop-case : goal.invariant-loop-case
invariant-loop-case l = AreSeen (width_of l.kind) (take l.case-index l.cases) l.seen.keys
