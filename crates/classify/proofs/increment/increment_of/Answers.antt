use Rattle.classify.proofs.IncrementLemmas.{no_increment}
use Rattle.classify.proofs.increment.increment_of.Goals as goal

pub returns-clause-none : goal.returns-clause-none
returns-clause-none c =
    let add = c.in-Binary in
    no_increment c.args.p.0 c.args.op.now add.operation add.nuw add.nsw add.exact add.disjoint add.kind add.left add.right c.in_ok-beside.field-0 c.numeral.result add.is c.in-Add-Int-eq32.is-0 c.in_ok-beside.ensures.some c.numeral.ensures.none
