use Rattle.std.proofs.Common.{◌≡◌, take, flat_map, find, None}
use Rattle.ir_rules.specs.Accepted.{body_of}
use Rattle.ir_eval.specs.Outcome.{has_name}
use Rattle.ir_eval.proofs.eval.function_named.Given as goal

abbrev pub invariant-loop-item : goal.invariant-loop-item
invariant-loop-item l = find (has_name l.name) (flat_map body_of (take l.item-index l.item-items)) ≡ None
