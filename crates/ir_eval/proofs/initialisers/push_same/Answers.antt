use Rattle.std.proofs.lemmas.Grind.{replicate_next}
use Rattle.ir_eval.proofs.Appended.{goes_on_none, goes_on_push}
use Rattle.ir_eval.proofs.initialisers.push_same.Goals as goal

pub loop-byte-init : goal.loop-byte-init
loop-byte-init c = goes_on_none _

pub loop-byte-preserved : goal.loop-byte-preserved
loop-byte-preserved c =
    let n = c.loop-byte._byte in
    rw (replicate_next n c.args.byte)
    (goes_on_push _ c.loop-byte.out.items _ _ c.args.byte c.loop-byte.invariant c.in_ok-push.ensures.items c.requires)
