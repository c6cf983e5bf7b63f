use Rattle.std.proofs.Common.{rules, sym, ◌∙◌, [], ◌∷◌}
use Rattle.ir_model.specs.declared.op.Case.{Case}
use Rattle.ir_model.specs.Sites.{UsesBlock}
use Rattle.ir_check.proofs.UndefinedSites.{at_found, at_behind, at_end}
use Rattle.ir_check.proofs.undefined.in_cases.Goals as goal

pub loop-case-preserved : goal.loop-case-preserved
loop-case-preserved c =
    sym (at_behind (λ (c : Case). UsesBlock c.to.0 ∷ []) c.args.cases.now c.loop-case.case-index
    c.args.scope.now c.case-item.result (search rules) c.case-item.is (search rules))
    ∙ c.loop-case.invariant

pub returns-in-Some : goal.returns-in-Some
returns-in-Some c =
    sym (at_found (λ (c : Case). UsesBlock c.to.0 ∷ []) c.args.cases.now c.loop-case.case-index
    c.args.scope.now c.case-item.result (search rules) c.case-item.is c.in-Some.place (search rules))
    ∙ c.loop-case.invariant

pub returns : goal.returns
returns c =
    sym (at_end (λ (c : Case). UsesBlock c.to.0 ∷ []) c.args.cases.now c.loop-case.case-index
    c.args.scope.now (search rules))
    ∙ c.loop-case.invariant
