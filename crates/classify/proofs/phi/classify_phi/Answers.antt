use Rattle.classify.proofs.PhiAnswers.{answer_exact, answer_other, answer_holds}
use Rattle.classify.proofs.phi.classify_phi.Goals as goal

pub returns-clause-exact : goal.returns-clause-exact
returns-clause-exact c =
    answer_exact c.args.f.now c.args.loops.now c.args.p.0 c.recurrence.result c.recurrence.ensures.some c.recurrence.ensures.none

pub returns-clause-other : goal.returns-clause-other
returns-clause-other c =
    answer_other c.args.f.now c.args.loops.now c.args.p.0 c.recurrence.result c.recurrence.ensures.some

pub returns-clause-holds : goal.returns-clause-holds
returns-clause-holds c =
    answer_holds c.args.f.now c.args.loops.now c.args.p.0 c.requires.thin c.recurrence.result c.recurrence.ensures.some c.recurrence.ensures.none
