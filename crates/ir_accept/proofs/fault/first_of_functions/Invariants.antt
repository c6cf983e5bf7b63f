use Rattle.ir_model.specs.Places.{signatures_of}
use Rattle.ir_accept.proofs.FunctionLists.{AreAccepted}
use Rattle.ir_accept.proofs.fault.first_of_functions.Given as goal

-- The functions so far are accepted.
abbrev pub invariant-loop-item : goal.invariant-loop-item
invariant-loop-item l = AreAccepted (signatures_of l.m) l.item-items l.item-index l.number
