use Rattle.std.proofs.Common.{take}
use Rattle.classify.specs.Recurrence.{phis}
use Rattle.ir_printer.specs.Shown.{shown}
use Rattle.scev_tool.specs.Report.{IsPhiLine}
use Rattle.scev_tool.proofs.Pieces.{AppendsPieces}
use Rattle.scev_tool.proofs.loop_lines.push_phis.Given as goal

-- The lines of the phis so far were appended.
abbrev pub invariant-loop-instr : goal.invariant-loop-instr
invariant-loop-instr l =
    AppendsPieces (IsPhiLine (shown l.names) l.f l.header.id.0) (phis (take l.instr-index l.instr-items))
    l.initial.out.items l.out.items
