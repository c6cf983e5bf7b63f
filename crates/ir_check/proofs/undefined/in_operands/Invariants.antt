use Rattle.std.proofs.Common.{◌≡◌, drop}
use Rattle.std.specs.List.{flat_map}
use Rattle.ir_model.specs.Sites.{typed_sites}
use Rattle.ir_check.specs.Undefined.{first_at}
use Rattle.ir_check.proofs.undefined.in_operands.Given as goal

abbrev pub invariant-loop-typed : goal.invariant-loop-typed
invariant-loop-typed l =
    first_at l.scope (flat_map typed_sites (drop l.typed-index l.operands))
    ≡ first_at l.scope (flat_map typed_sites l.operands)
