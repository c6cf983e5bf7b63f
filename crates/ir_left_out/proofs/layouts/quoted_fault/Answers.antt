use Rattle.std.proofs.Common.{[], ◌∷◌, length, ap, arith}
use Rattle.std.proofs.lemmas.List.{length-append}
use Rattle.ir_left_out.proofs.TargetFound.{fault_within}
use Rattle.ir_left_out.proofs.layouts.quoted_fault.Goals as goal

pub overflow_add-result : goal.overflow_add-result
overflow_add-result c =
    let within = fault_within c.in_ok-inner.inner.now c.in_ok-number.number c.in_ok-number.offset
    c.in_ok-number.ensures in
    omega (arith, ap length c.in_ok-inner.ensures, length-append c.in_ok-inner.inner.now (34 ∷ []), c.requires)

pub returns-clause-within : goal.returns-clause-within
returns-clause-within c =
    let within = fault_within c.in_ok-inner.inner.now c.in_ok-number.number c.in_ok-number.offset
    c.in_ok-number.ensures in
    omega (arith, ap length c.in_ok-inner.ensures, length-append c.in_ok-inner.inner.now (34 ∷ []))
