use Rattle.loop_turns.proofs.UseTrails.{no_turn_since, defined_before}
use Rattle.loop_turns.proofs.laws.no_turn_before_a_use.Goals as goal

pub returns-clause-held : goal.returns-clause-held
returns-clause-held c signatures f l k use_ d i r accepted is_loop at is held inside stands = (
  no_turn_since signatures f l k use_ d i r accepted is_loop at is held stands,
  defined_before signatures f k use_ d i r accepted at is stands,
)

pub returns-clause-left : goal.returns-clause-left
returns-clause-left c signatures f l k use_ d i r accepted is_loop at is held outside stands = (
  no_turn_since signatures f l k use_ d i r accepted is_loop at is held stands,
  defined_before signatures f k use_ d i r accepted at is stands,
)
