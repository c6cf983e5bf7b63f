use Rattle.std.proofs.Common.{◌≡◌, [], ◌∷◌, drop}
use Rattle.std.specs.List.{flat_map}
use Rattle.ir_model.specs.declared.op.Case.{Case}
use Rattle.ir_model.specs.Sites.{UsesBlock}
use Rattle.ir_check.specs.Undefined.{first_at}
use Rattle.ir_check.proofs.undefined.in_cases.Given as goal

abbrev pub invariant-loop-case : goal.invariant-loop-case
invariant-loop-case l =
    first_at l.scope (flat_map (λ (c : Case). UsesBlock c.to.0 ∷ []) (drop l.case-index l.cases))
    ≡ first_at l.scope (flat_map (λ (c : Case). UsesBlock c.to.0 ∷ []) l.cases)
