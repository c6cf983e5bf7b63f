use Rattle.std.specs.Prelude.{List, Contains}
use Rattle.std.proofs.Common.{sym, subst, ◌∙◌}
use Rattle.ir_model.specs.declared.op.PhiEntry.{PhiEntry}
use Rattle.ir_machine.specs.Stands.{register}
use Rattle.ir_machine.proofs.PhiEntries.{value_of_entry}
use Rattle.ir_machine.proofs.phis.phi_value.Goals as goal

pub returns-in_err-x : goal.returns-in_err-x
returns-in_err-x c =
    let phi = c.in-Phi in
    let entry : PhiEntry = record { value = c.in_ok-operand.operand; from = c.args.from } in
    let there = subst (λ (entries : List PhiEntry). Contains entries entry) c.as_slice.ensures
    c.in_ok-operand.ensures.found in
    let is = value_of_entry (register c.args.registers.now) c.args.n c.args.op.now phi.kind phi.entries entry phi.is
    c.requires.agree there in
    rw c.from_residual-in_err-x.ensures (c.in_err-x.ensures ∙ sym is)

pub returns : goal.returns
returns c =
    let phi = c.in-Phi in
    let entry : PhiEntry = record { value = c.in_ok-operand.operand; from = c.args.from } in
    let there = subst (λ (entries : List PhiEntry). Contains entries entry) c.as_slice.ensures
    c.in_ok-operand.ensures.found in
    let is = value_of_entry (register c.args.registers.now) c.args.n c.args.op.now phi.kind phi.entries entry phi.is
    c.requires.agree there in
    c.in_ok-x.ensures ∙ sym is
