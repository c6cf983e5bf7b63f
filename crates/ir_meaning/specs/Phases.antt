-- How far a run is.
use Rattle.std.specs.Prelude.{Option}
use Rattle.ir_meaning.specs.declared.value.Value.{Value}

-- A run goes on; or it has returned, with a value or, from a function of type `void`, none; or its behaviour is
-- undefined from here on; or a call didn't return; or no instruction can be carried out. It is stuck where a register
-- is read before it is set or holds a value of another type, a branch leads to no block, a phi has no entry for the
-- edge that is taken, or a phi stands behind another instruction. No run of an accepted function is.
pub data Phase : Type 0 where
  Running : Phase
  Returned : Option Value → Phase
  Undefined : Phase
  Stopped : Phase
  Stuck : Phase
