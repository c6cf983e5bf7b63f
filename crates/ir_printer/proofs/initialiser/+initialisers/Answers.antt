use Rattle.std.proofs.Common.{codes, arith}
use Rattle.std.proofs.lemmas.Grind.{common_steps}
use Rattle.ir_printer.specs.Parts.{part_line}
use Rattle.ir_printer.proofs.Joined.{joined_all}
use Rattle.ir_printer.proofs.Lists.{list_text}
use Rattle.ir_printer.proofs.initialiser.+initialisers.Goals as goal

pub push_parts-returns : goal.push_parts-returns
push_parts-returns t c =
    joined_all part_line (codes ", ") _ _ _ _ _ _ _ c.in-Some.ensures.cases.0 c.in_ok-push_part.ensures
    c.loop-part.invariant c.loop-part-test.false

pub push_init-returns-in_ok-push-in-List-2 : goal.push_init-returns-in_ok-push-in-List-2
push_init-returns-in_ok-push-in-List-2 t c = grind (arith, common_steps, list_text c.args.kind.now c.in-List.parts)
