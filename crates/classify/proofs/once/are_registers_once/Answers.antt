use Rattle.std.proofs.Common.{length}
use Rattle.ir_model.specs.Shapes.{defined_values, used_values}
use Rattle.classify.proofs.TallyLemmas.{AreOnce_counted, same_bound}
use Rattle.classify.proofs.ThinNames.{values_below}
use Rattle.classify.proofs.once.are_registers_once.Goals as goal

pub are_once-requires : goal.are_once-requires
are_once-requires c =
    let f = c.args.f.now in
    same_bound (length f.values) (defined_values f) (used_values f) c.in_ok-defined.defined c.in_ok-used.used c.in_ok-defined.ensures c.in_ok-used.ensures

pub returns : goal.returns
returns c =
    let f = c.args.f.now in
    let same = AreOnce_counted (length f.values) (defined_values f) (used_values f) c.in_ok-defined.defined c.in_ok-used.used c.in_ok-defined.ensures c.in_ok-used.ensures (values_below f c.requires) in
    (λ yes. same.0 (c.are_once.ensures.0 yes), λ once. c.are_once.ensures.1 (same.1 once))
