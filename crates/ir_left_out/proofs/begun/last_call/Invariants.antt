use Rattle.std.proofs.Common.{◌≡◌, ◌+◌, ◌≤◌, Some, drop, take}
use Rattle.ir_lex.specs.Tokenized.{lexemes}
use Rattle.ir_left_out.specs.Begun.{depth_before}
use Rattle.ir_left_out.proofs.begun.last_call.Given as goal

abbrev pub invariant-back : goal.invariant-back
invariant-back l = record {
  going_on : depth_before (drop l.at (take l.end (lexemes l.tokens))) ≡ Some l.depth;
  within : l.depth + l.at ≤ l.end;
}

abbrev pub decreases-back : goal.decreases-back
decreases-back l = l.at
