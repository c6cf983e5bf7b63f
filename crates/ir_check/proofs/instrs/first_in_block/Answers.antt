use Rattle.std.proofs.Common.{arith, ◌≡◌, ◌+◌, suc, length, true, false, Some, sym, refl, ap, ◌∙◌}
use Rattle.std.proofs.lemmas.Option.{slice_get_read}
use Rattle.ir_check.specs.Instrs.{breaks}
use Rattle.ir_check.proofs.FirstBreaking.{first_of, first_behind, first_here}
use Rattle.ir_check.proofs.instrs.first_in_block.Goals as goal

pub loop-instr-preserved : goal.loop-instr-preserved
loop-instr-preserved c =
    let instrs = c.as_slice-instr-items.result.now in
    let i = c.loop-instr.instr-index in
    let next : i + 1 ≡ suc i = omega arith in
    let there =
    slice_get_read instrs (length instrs) i c.instr-item.result refl c.loop-instr-test.true c.instr-item.is in
    let keeps : breaks c.args.callees.now c.args.f.now c.args.rule c.instr-item.result ≡ false =
    sym c.in_ok-is_breaking.ensures ∙ c.if-branch.false in
    rw next (sym (first_behind c.args.callees.now c.args.f.now c.args.rule c.args.block.now.id.0 instrs i
    c.instr-item.result there keeps) ∙ c.loop-instr.invariant)

pub returns-then-branch : goal.returns-then-branch
returns-then-branch c =
    let instrs = c.as_slice-instr-items.result.now in
    let i = c.loop-instr.instr-index in
    let b = c.args.block.now.id.0 in
    let there =
    slice_get_read instrs (length instrs) i c.instr-item.result refl c.loop-instr-test.true c.instr-item.is in
    let broken : breaks c.args.callees.now c.args.f.now c.args.rule c.instr-item.result ≡ true =
    sym c.in_ok-is_breaking.ensures ∙ c.if-branch.true in
    ap Some c.place_of.ensures ∙
    (sym (first_here c.args.callees.now c.args.f.now c.args.rule b instrs i c.instr-item.result there broken)
    ∙ c.loop-instr.invariant
    ∙ ap (first_of c.args.callees.now c.args.f.now c.args.rule b) c.as_slice-instr-items.ensures)
