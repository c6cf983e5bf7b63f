use Rattle.ir_accept.proofs.OneFault.{one_fault, not_accepted}
use Rattle.ir_accept.proofs.laws.one_fault.Goals as goal

pub returns-clause-one : goal.returns-clause-one
returns-clause-one c m rule other number k place at first second =
    one_fault m rule other number k place at first second

pub returns-clause-accepted : goal.returns-clause-accepted
returns-clause-accepted c m rule number place accepted fault = not_accepted m rule number place accepted fault
