use Rattle.ir_names.proofs.ItemsAreNumbered.{function_item}
use Rattle.ir_names.proofs.module.item.Goals as goal

pub returns-in_ok-body-in-Define : goal.returns-in_ok-body-in-Define
returns-in_ok-body-in-Define c = rw c.in-Define.is
    (function_item c.args.spoken.now _ _ _ _ c.in_ok-body-in-Define.ensures)
