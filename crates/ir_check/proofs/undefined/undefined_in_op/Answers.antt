use Rattle.std.proofs.Common.{rules, ◌≡◌, [], ◌∷◌}
use Rattle.std.specs.List.{flat_map}
use Rattle.std.specs.Option.{option_or}
use Rattle.ir_model.specs.declared.op.Case.{Case}
use Rattle.ir_model.specs.Sites.{UsesBlock, operand_sites, op_sites}
use Rattle.ir_check.specs.Undefined.{first_at}
use Rattle.ir_check.proofs.UndefinedSites.{at_switch}
use Rattle.ir_check.proofs.undefined.undefined_in_op.Goals as goal

pub returns-in-Switch : goal.returns-in-Switch
returns-in-Switch c =
    let scope = c.args.scope.now in
    let s = c.in-Switch in
    let whole : first_at scope (op_sites c.args.op.now)
    ≡ option_or (first_at scope (operand_sites s.value)) (option_or (first_at scope (UsesBlock s.other.0 ∷ []))
    (first_at scope (flat_map (λ (c : Case). UsesBlock c.to.0 ∷ []) s.cases))) =
    rw s.is (at_switch scope s.value s.other.0 s.cases) in
    search rules
