use Rattle.ir_memory.proofs.MemoryLemmas as memory
use Rattle.ir_memory.proofs.laws.stored_is_loaded.Goals as goal

pub returns : goal.returns
returns c = memory.stored_is_loaded
