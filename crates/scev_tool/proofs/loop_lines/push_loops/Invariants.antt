use Rattle.std.proofs.Common.{◌≡◌, ◌≤◌, length, take}
use Rattle.std.specs.Prelude.{Some, slice_get}
use Rattle.scev_base.specs.declared.ids.BlockId.{BlockId}
use Rattle.ir_printer.specs.Shown.{shown}
use Rattle.scev_tool.specs.Report.{AreLoopLines}
use Rattle.scev_tool.proofs.Pieces.{AppendsPieces}
use Rattle.scev_tool.proofs.Headers.{place_of}
use Rattle.scev_tool.proofs.loop_lines.push_loops.Given as goal

-- The lines of the loops so far were appended, and the header of the next one isn't among the blocks so far.
abbrev pub invariant-loop-block : goal.invariant-loop-block
invariant-loop-block l = record {
  done : l.done ≤ length l.headers;
  lines : AppendsPieces (AreLoopLines (shown l.names) l.f) (take l.done l.headers) l.initial.out.items l.out.items;
  later : (b : BlockId) → slice_get l.headers l.done ≡ Some b → l.block-index ≤ place_of l.block-items b.0;
}
