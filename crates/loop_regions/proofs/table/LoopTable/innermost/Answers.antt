use Rattle.std.proofs.Common.{sym}
use Rattle.loop_regions.proofs.TableLemmas.{none_holds, none_missing}
use Rattle.loop_regions.proofs.table.LoopTable.innermost.Goals as goal

pub returns-in-Some-clause-none : goal.returns-in-Some-clause-none
returns-in-Some-clause-none c =
    rw (← c.self.view_is)
    (none_holds _ _ c.self.invariant c.args.b c.in-Some.found.now (sym c.in-Some.ensures.value))

pub returns-in-None-clause-none : goal.returns-in-None-clause-none
returns-in-None-clause-none c =
    rw (← c.self.view_is) (none_missing _ _ c.self.invariant c.args.b (sym c.in-None.ensures.value))
