use Rattle.std.proofs.Common.{◌≡◌, take}
use Rattle.ir_model.specs.Walks.{successors}
use Rattle.flow_graph.proofs.graph.block_targets.Given as goal

abbrev pub invariant-loop-instr : goal.invariant-loop-instr
invariant-loop-instr l = l.out ≡ successors (take l.instr-index l.instrs)
