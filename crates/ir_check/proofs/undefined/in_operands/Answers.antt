use Rattle.std.proofs.Common.{rules, sym, ◌∙◌}
use Rattle.ir_model.specs.Sites.{typed_sites}
use Rattle.ir_check.proofs.UndefinedSites.{at_found, at_behind, at_end}
use Rattle.ir_check.proofs.undefined.in_operands.Goals as goal

pub loop-typed-preserved : goal.loop-typed-preserved
loop-typed-preserved c =
    sym (at_behind typed_sites c.args.operands.now c.loop-typed.typed-index
    c.args.scope.now c.typed-item.result (search rules) c.typed-item.is (search rules))
    ∙ c.loop-typed.invariant

pub returns-in-Some : goal.returns-in-Some
returns-in-Some c =
    sym (at_found typed_sites c.args.operands.now c.loop-typed.typed-index
    c.args.scope.now c.typed-item.result (search rules) c.typed-item.is c.in-Some.place (search rules))
    ∙ c.loop-typed.invariant

pub returns : goal.returns
returns c =
    sym (at_end typed_sites c.args.operands.now c.loop-typed.typed-index
    c.args.scope.now (search rules))
    ∙ c.loop-typed.invariant
