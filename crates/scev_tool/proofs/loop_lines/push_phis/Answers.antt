use Rattle.std.proofs.Common.{◌∙◌, sym, refl, length}
use Rattle.ir_printer.specs.Shown.{shown}
use Rattle.scev_tool.specs.Report.{IsPhiLine, phi_line}
use Rattle.scev_tool.proofs.Recurrences.{answer_small}
use Rattle.scev_tool.proofs.Phis.{appends_phi, appends_no_phi, is_phi_of, result_of_phi}
use Rattle.scev_tool.proofs.loop_lines.push_phis.Goals.{in-Some+in_ok-answer+in_ok-push_phi, in_default}
use Rattle.scev_tool.proofs.loop_lines.push_phis.Goals as goal

pub push_phi-requires : goal.push_phi-requires
push_phi-requires c =
    let items = c.as_slice-instr-items.ensures in
    record {
      small = answer_small c.args.f.now c.args.header.now.id.0 c.in-Some.p.0 c.in_ok-answer.answer
          (c.in_ok-answer.ensures.exact c.args.header.now.id.0 c.requires.header
          (is_phi_of c.args.f.now c.args.header.now.id.0 c.args.header.now c.loop-instr.instr-index c.instr-item.result
          c.in-Some.p c.requires.block (rw items at c.loop-instr-test.true) (rw items at c.instr-item.is)
          (sym c.phi_result.ensures ∙ c.in-Some.is)));
    }

pub loop-instr-preserved : goal.loop-instr-preserved
loop-instr-preserved c =
    let Is = IsPhiLine (shown c.args.names.now) c.args.f.now c.args.header.now.id.0 in
    let items = c.as_slice-instr-items.ensures in
    let b = c.args.header.now.id.0 in
    elim c.match-phi_result.branch [
      | in-Some+in_ok-answer+in_ok-push_phi w ↦
          let phi = sym c.phi_result.ensures ∙ w.in-Some.is in
          let answer = w.in_ok-answer.ensures.exact b c.requires.header
          (is_phi_of c.args.f.now b c.args.header.now c.loop-instr.instr-index c.instr-item.result w.in-Some.p
          c.requires.block (rw items at c.loop-instr-test.true) (rw items at c.instr-item.is) phi) in
          rw w.out-is
          (appends_phi Is c.as_slice-instr-items.result.now c.loop-instr.instr-index c.instr-item.result
          c.loop-instr-test.true c.instr-item.is _ c.loop-instr.out.items c.loop-instr.invariant w.in-Some.p _
          (phi_line (shown c.args.names.now) b w.in-Some.p.0 w.in_ok-answer.answer) phi
          (w.in-Some.p.0, (result_of_phi c.instr-item.result w.in-Some.p phi).1, w.in_ok-answer.answer, answer, refl)
          w.in_ok-push_phi.ensures)
      | in_default w ↦
          rw w.out-is
          (appends_no_phi Is c.as_slice-instr-items.result.now c.loop-instr.instr-index c.instr-item.result
          c.loop-instr-test.true c.instr-item.is _ c.loop-instr.out.items c.loop-instr.invariant
          (length c.args.f.now.values) (length c.args.f.now.labels) (rw items c.requires.instrs)
          (sym c.phi_result.ensures ∙ w.in_default.is))
    ]
