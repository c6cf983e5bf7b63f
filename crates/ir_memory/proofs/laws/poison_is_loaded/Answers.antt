use Rattle.ir_memory.proofs.MemoryLemmas as memory
use Rattle.ir_memory.proofs.laws.poison_is_loaded.Goals as goal

pub returns : goal.returns
returns c = memory.poison_is_loaded
