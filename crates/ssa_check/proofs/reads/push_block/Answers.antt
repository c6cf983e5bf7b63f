use Rattle.std.proofs.Common.{◌++◌, List, take, sym, ap, ◌∙◌, append_assoc}
use Rattle.ir_rules.specs.Uses.{Use, op_uses, uses_from}
use Rattle.ssa_check.proofs.ReadLemmas.{uses_more}
use Rattle.ssa_check.proofs.reads.push_block.Goals as goal

pub loop-index-preserved : goal.loop-index-preserved
loop-index-preserved c =
    let f = c.args.sizes.now in
    let b = c.args.block.now.id.0 in
    let items = c.as_slice-instr-items.result.now in
    let index = c.loop-index.index in
    let before = c.args.out.now in
    let own = op_uses f b index c.instr-item.result.op in
    let more = uses_more f b items index c.instr-item.result c.loop-index-test.true c.instr-item.is in
    c.in_ok-push_op.ensures ∙ ap (λ (xs : List Use). xs ++ own) c.loop-index.invariant
    ∙ append_assoc before (uses_from f b 0 (take index items)) own ∙ ap (λ (xs : List Use). before ++ xs) (sym more)
