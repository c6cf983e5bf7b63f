use Rattle.ir_eval.proofs.Appended.{zeros_fit}
use Rattle.ir_eval.proofs.arguments.place.Goals as goal

pub add_bytes-requires : goal.add_bytes-requires
add_bytes-requires c =
    let all = c.in_ok-zeros-in-NewBlock.ensures.items_if_clones_equal (λ y same. same) in
    record { fit = rw all (zeros_fit c.in-NewBlock.size) }
