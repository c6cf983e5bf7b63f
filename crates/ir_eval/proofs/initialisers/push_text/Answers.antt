use Rattle.std.proofs.Common.{◌<◌, length, arith}
use Rattle.std.proofs.lemmas.Bool.{lt-ltb}
use Rattle.std.proofs.lemmas.List.{map_more}
use Rattle.ir_memory.specs.declared.byte.Byte.TheVariants as byte
use Rattle.ir_eval.proofs.Appended.{goes_on_none, goes_on_push}
use Rattle.ir_eval.proofs.initialisers.push_text.Goals as goal

pub loop-byte-init : goal.loop-byte-init
loop-byte-init c = goes_on_none _

pub loop-byte-preserved : goal.loop-byte-preserved
loop-byte-preserved c =
    let within : c.loop-byte.byte-index < length c.args.text.now = omega arith in
    rw (map_more byte.Number c.args.text.now c.loop-byte.byte-index 0 within)
    (goes_on_push _ c.loop-byte.out.items _ _ (byte.Number _) c.loop-byte.invariant c.in_ok-push.ensures.items
    (lt-ltb _ 256 (omega (arith, c.type_inv.text c.loop-byte.byte-index))))
