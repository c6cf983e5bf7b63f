use Rattle.std.proofs.Common.{sym, ◌∙◌, ap}
use Rattle.std.specs.List.{list_all}
use Rattle.std.proofs.lemmas.List.Folds.{list_all-map}
use Rattle.ir_model.specs.declared.op.Case.{Case}
use Rattle.ir_model.specs.declared.op.PhiEntry.{PhiEntry}
use Rattle.ir_model.specs.declared.op.TypedOperand.{TypedOperand}
use Rattle.ir_rules.specs.Types.{literal_fits, at_type, number}
use Rattle.ir_check.proofs.literals.literals_fit.Goals as goal

pub returns-in-Phi : goal.returns-in-Phi
returns-in-Phi c =
    let kind = c.in-Phi.kind in
    rw c.in-Phi.is
    (c.entries_fit.ensures
    ∙ ap (list_all (λ (entry : PhiEntry). literal_fits kind entry.value)) c.as_slice.ensures
    ∙ sym (list_all-map (λ (typed : TypedOperand). literal_fits typed.kind typed.value)
    (λ (entry : PhiEntry). at_type kind entry.value) c.in-Phi.entries))

pub returns-then-literal_fits-3 : goal.returns-then-literal_fits-3
returns-then-literal_fits-3 c =
    rw (c.in-Switch.is, ← c.if-literal_fits-3.ensures)
    (c.cases_fit.ensures
    ∙ ap (list_all (λ (one : Case). literal_fits one.kind (number one.number))) c.as_slice-then-literal_fits-3.ensures
    ∙ sym (list_all-map (λ (typed : TypedOperand). literal_fits typed.kind typed.value)
    (λ (one : Case). at_type one.kind (number one.number)) c.in-Switch.cases))
