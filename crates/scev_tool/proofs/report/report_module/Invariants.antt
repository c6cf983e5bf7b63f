use Rattle.std.proofs.Common.{take}
use Rattle.scev_tool.specs.Report.{AreItemLines}
use Rattle.scev_tool.proofs.Pieces.{AppendsPieces}
use Rattle.scev_tool.proofs.report.report_module.Given as goal

-- The lines of the items so far were appended.
abbrev pub invariant-loop-item : goal.invariant-loop-item
invariant-loop-item l =
    AppendsPieces (AreItemLines l.globals) (take l.item-index l.item-items) l.initial.text.items l.text.items
