use Rattle.std.proofs.Common.{◌≡◌, ◌++◌, map, flat_map, take}
use Rattle.ir_model.specs.declared.op.TypedOperand.{TypedOperand}
use Rattle.ir_model.specs.Shapes.{register_of}
use Rattle.ssa_check.specs.Tables.{use_at}
use Rattle.ssa_check.proofs.reads.push_typed.Given as goal

abbrev pub invariant-loop-typed : goal.invariant-loop-typed
invariant-loop-typed l =
    l.out ≡ l.initial.out
    ++ map (use_at l.spot) (flat_map register_of (map (λ (typed : TypedOperand). typed.value)
    (take l.typed-index l.operands)))
