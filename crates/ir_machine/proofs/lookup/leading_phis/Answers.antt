use Rattle.std.proofs.Common.{rules, tests, ◌∙◌, ap, take}
use Rattle.std.proofs.lemmas.Iterator.{YieldsList-from_slice}
use Rattle.std.proofs.lemmas.Iterator.Consumers.{count_from_yields_List}
use Rattle.std.proofs.lemmas.Iterator.Search.{YieldsList-from_take_while}
use Rattle.std.proofs.lemmas.List.Folds.{length-prefix_len}
use Rattle.ir_model.specs.declared.function.Instr.{Instr}
use Rattle.ir_model.specs.Shapes.{is_phi as is_of_phi}
use Rattle.ir_machine.proofs.lookup.leading_phis.Goals as goal

pub returns : goal.returns
returns c =
    let instrs = c.args.instrs.now in
    let test : Instr → _ = λ (i : Instr). is_of_phi i.op in
    let count = count_from_yields_List c.take_while.result _ c.count-count.ensures.ran
    (YieldsList-from_take_while _ test (YieldsList-from_slice instrs (cc)) c.take_while.ensures.closure
    c.take_while.ensures.done (λ x b q k. search (rules, tests)))
    ∙ length-prefix_len test instrs in
    ap (λ k. take k instrs) count
