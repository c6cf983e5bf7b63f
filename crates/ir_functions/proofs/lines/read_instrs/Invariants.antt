use Rattle.std.proofs.Common.{◌≡◌, ◌-◌, ◌<◌, ◌≤◌, Bool, true, List, length}
use Rattle.ir_model.specs.declared.function.Instr.{Instr}
use Rattle.ir_text.specs.Mentions.{Mention}
use Rattle.ir_parts.specs.Reading.{left_from}
use Rattle.ir_parts.specs.ListReading.{all_until_at}
use Rattle.ir_parts.specs.Places.{mentions_at}
use Rattle.ir_functions.specs.declared.lines.Line.{Line}
use Rattle.ir_functions.specs.Lines.{ends_block, line_at, instrs_of}
use Rattle.ir_functions.specs.Views.{bare_instrs, instrs_sites}
use Rattle.ir_functions.proofs.GatheredLists.{made_of}
use Rattle.ir_functions.proofs.UntilLoops.{Stands}
use Rattle.ir_functions.proofs.lines.read_instrs.Given as goal

abbrev pub last : Line × List Mention → Bool
last told = ends_block told.0

abbrev pub invariant-lines : goal.invariant-lines
invariant-lines l = record {
  reading : (found : List (Line × List Mention))
      × (◌≡◌ {A = List Instr × List Mention} (bare_instrs l.instrs, mentions_at l.tokens (instrs_sites l.instrs))
      (made_of instrs_of found))
      × Stands last line_at l.ended found (left_from l.tokens l.at) (all_until_at last line_at
      (left_from l.tokens l.from));
  forth : l.from ≤ l.at;
  further : l.ended ≡ true → l.from < l.at;
  within : l.at ≤ length l.tokens.tokens;
}

abbrev pub decreases-lines : goal.decreases-lines
decreases-lines l = length l.tokens.tokens - l.at
