use Rattle.std.proofs.Common.{◌≡◌, ◌+◌, ◌-◌, ◌/◌, arith}
use Rattle.ir_memory.specs.Spelling.{byte_count}
use Rattle.ir_memory.proofs.block.Block.load.Goals as goal

pub returns-clause-value : goal.returns-clause-value
returns-clause-value c =
    let count : c.args.offset + c.get.result / 8 - c.args.offset ≡ byte_count c.args.w.bits = omega arith in
    let e = rw (count, c.deref.ensures.value, c.self.view_is) at c.read_value.ensures.value in
    e
