use Rattle.ir_check.proofs.LaterRules.{IsSingle, breaking_places}
use Rattle.ir_check.proofs.function.first_place.Goals as goal

pub returns-in_default : goal.returns-in_default
returns-in_default c =
    let single : IsSingle c.args.rule = record {
      width = c.in_default.not-BadWidth;
      entry = c.in_default.not-EntryHasPredecessor;
      first = c.in_default.not-PhiNotFirst;
      entries = c.in_default.not-PhiEntries;
      limit = c.in_default.not-Limit;
    } in
    rw (← breaking_places c.args.callees.now c.args.f.now c.args.rule c.requires.later single) c.first_breaking.ensures
