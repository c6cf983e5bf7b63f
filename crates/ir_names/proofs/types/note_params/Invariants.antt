use Rattle.std.proofs.Common.{take}
use Rattle.ir_model.specs.Defined.{param_type}
use Rattle.ir_names.specs.Kinds.{Notes}
use Rattle.ir_names.proofs.types.note_params.Given as goal

abbrev pub invariant-loop-param : goal.invariant-loop-param
invariant-loop-param l = Notes l.fn.kinds l.kinds (param_type (take l.param-index l.params))
