use Rattle.std.proofs.Common.{length, arith}
use Rattle.ir_memory.proofs.SpellingLemmas.{number_bytes_more, number_bytes_all}
use Rattle.ir_memory.proofs.spelling.write_number.Goals as goal

pub loop-byte-preserved : goal.loop-byte-preserved
loop-byte-preserved c =
    number_bytes_more c.loop-byte.bytes c.loop-byte.byte-index c.args.number c.loop-byte.rest (omega arith)
    c.loop-byte.invariant

pub returns : goal.returns
returns c =
    number_bytes_all c.loop-byte.bytes c.loop-byte.byte-index (length c.args.bytes.now) c.args.number c.loop-byte.rest
    c.loop-byte.auto.bytes (omega arith) c.loop-byte.invariant
