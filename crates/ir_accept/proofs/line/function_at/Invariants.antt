use Rattle.std.proofs.Common.{◌≡◌, slice_get}
use Rattle.ir_rules.specs.Accepted.{functions_of}
use Rattle.ir_accept.proofs.FunctionLists.{behind}
use Rattle.ir_accept.proofs.line.function_at.Given as goal

-- The function that is looked for stands among those that are left.
abbrev pub invariant-loop-item : goal.invariant-loop-item
invariant-loop-item l =
    slice_get (behind l.item-items l.item-index) l.left ≡ slice_get (functions_of l.m) l.number
