use Rattle.std.proofs.Common.{sym, ◌∙◌, ap}
use Rattle.std.specs.List.{list_all}
use Rattle.std.proofs.lemmas.List.Folds.{list_all-map}
use Rattle.ir_model.specs.declared.op.Case.{Case}
use Rattle.ir_model.specs.declared.op.PhiEntry.{PhiEntry}
use Rattle.ir_model.specs.declared.op.TypedOperand.{TypedOperand}
use Rattle.ir_rules.specs.Types.{fits, at_type, number, is_int}
use Rattle.ir_check.proofs.operands.operands_fit.Goals as goal

pub returns-in-Phi : goal.returns-in-Phi
returns-in-Phi c =
    let f = c.args.f.now in
    let kind = c.in-Phi.kind in
    rw c.in-Phi.is
    (c.entries_fit.ensures
    ∙ ap (list_all (λ (entry : PhiEntry). fits f kind entry.value)) c.as_slice.ensures
    ∙ sym (list_all-map (λ (typed : TypedOperand). fits f typed.kind typed.value)
    (λ (entry : PhiEntry). at_type kind entry.value) c.in-Phi.entries))

pub returns-then-fits-5 : goal.returns-then-fits-5
returns-then-fits-5 c =
    let f = c.args.f.now in
    rw (c.in-Switch.is, ← c.if-fits-5.ensures)
    (c.cases_fit.ensures
    ∙ ap (list_all (λ (one : Case). is_int one.kind)) c.as_slice-then-fits-5.ensures
    ∙ sym (list_all-map (λ (typed : TypedOperand). fits f typed.kind typed.value)
    (λ (one : Case). at_type one.kind (number one.number)) c.in-Switch.cases))
