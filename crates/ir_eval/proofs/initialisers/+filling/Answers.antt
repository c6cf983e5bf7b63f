use Rattle.ir_eval.proofs.PartRows.{list_bytes}
use Rattle.ir_eval.proofs.initialisers.+filling.Goals as goal

pub push_init-returns-in-List : goal.push_init-returns-in-List
push_init-returns-in-List t c =
    rw (c.in-List.is, list_bytes c.args.kind.now c.in-List.parts, ← c.as_slice-in-List.ensures) c.push_parts.ensures
