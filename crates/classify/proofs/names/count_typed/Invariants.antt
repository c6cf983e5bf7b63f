use Rattle.std.proofs.Common.{◌≡◌, map, take}
use Rattle.std.specs.Prelude.{flat_map}
use Rattle.ir_model.specs.Shapes.{register_of}
use Rattle.classify.specs.Tally.{all_counted}
use Rattle.classify.proofs.names.count_typed.Given as goal

abbrev pub invariant-loop-typed : goal.invariant-loop-typed
invariant-loop-typed l = l.used ≡ all_counted l.initial.used (flat_map register_of (map (λ typed. typed.value) (take l.typed-index l.operands)))
