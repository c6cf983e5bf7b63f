use Rattle.std.proofs.Common.{◌+◌, drop, arith}
use Rattle.std.proofs.lemmas.Grind.{common_steps}
use Rattle.scev_outside.proofs.BytesLemmas.{Gave-filled}
use Rattle.scev_outside.proofs.memory_source.MemorySourceSource.read.Goals as goal

pub returns-clause-gave : goal.returns-clause-gave
returns-clause-gave c =
    let n = c.copy_front-count.result in
    let after = drop (c.self.inside.given + n) c.self.inside.bytes.items in
    Gave-filled c.args.self.now.left c.args.buf.now c.copy_front-count.new.buf after n (grind (arith, common_steps)) (grind (arith, common_steps)) (grind (arith, common_steps))
