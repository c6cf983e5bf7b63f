use Rattle.std.proofs.Common.{◌≡◌, ◌≤◌, ◌-◌, List, length}
use Rattle.ir_model.specs.declared.op.Case.{Case}
use Rattle.ir_text.specs.Mentions.{Mention}
use Rattle.ir_parts.specs.Reading.{left_from, repeated_at}
use Rattle.ir_parts.specs.Places.{mentions_at}
use Rattle.ir_parts.proofs.Loops.{Repeats}
use Rattle.ir_body.specs.Cases.{begins_scalar, case_at}
use Rattle.ir_body.specs.Gathered.{gathered}
use Rattle.ir_body.specs.Views.{bare_cases, cases_sites}
use Rattle.ir_body.proofs.cases.read_cases.Given as goal

abbrev pub invariant-loop-cases : goal.invariant-loop-cases
invariant-loop-cases l = record {
  reading : (found : List (Case × List Mention))
      × (◌≡◌ {A = List Case × List Mention} (bare_cases l.cases, mentions_at l.tokens (cases_sites l.cases))
      (gathered found))
      × Repeats begins_scalar case_at found (left_from l.tokens l.at)
      (repeated_at begins_scalar case_at (left_from l.tokens l.from));
  forth : l.from ≤ l.at;
  within : l.at ≤ length l.tokens.tokens;
}

abbrev pub decreases-loop-cases : goal.decreases-loop-cases
decreases-loop-cases l = length l.tokens.tokens - l.at
