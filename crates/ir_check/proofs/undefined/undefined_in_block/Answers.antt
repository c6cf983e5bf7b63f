use Rattle.std.proofs.Common.{rules, sym, ◌∙◌}
use Rattle.ir_check.specs.Undefined.{undefined_instr, first_at}
use Rattle.ir_check.proofs.FirstPlaces.{first_found, first_behind}
use Rattle.ir_check.proofs.undefined.undefined_in_block.Goals as goal

pub loop-instr-preserved : goal.loop-instr-preserved
unfolding first_at
loop-instr-preserved c =
    sym (first_behind (undefined_instr c.args.defined.now c.args.globals c.args.block.now.id) c.args.block.now.instrs
    c.loop-instr.instr-index c.instr-item.result (search rules) (search rules)
    (sym (rw c.place_of.ensures at c.undefined_in_op.ensures) ∙ c.in-None.is))
    ∙ c.loop-instr.invariant

pub returns-in-Some : goal.returns-in-Some
unfolding first_at
returns-in-Some c =
    sym (first_found (undefined_instr c.args.defined.now c.args.globals c.args.block.now.id) c.args.block.now.instrs
    c.loop-instr.instr-index c.instr-item.result c.in-Some.place (search rules) (search rules)
    (sym (rw c.place_of.ensures at c.undefined_in_op.ensures) ∙ c.in-Some.is))
    ∙ c.loop-instr.invariant
