use Rattle.std.proofs.Common.{◌≡◌, take, fold}
use Rattle.std.specs.List.{flat_map}
use Rattle.ir_model.specs.Sites.{typed_sites}
use Rattle.ir_printer.specs.Counting.{counted}
use Rattle.ir_printer.proofs.walk.walk_typed.Given as goal

abbrev pub invariant-loop-typed : goal.invariant-loop-typed
invariant-loop-typed l = l.numbers
    ≡ fold (counted l.uses) l.initial.numbers (flat_map typed_sites (take l.typed-index l.operands))
