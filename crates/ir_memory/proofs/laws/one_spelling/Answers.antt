use Rattle.ir_memory.proofs.StoredLemmas.{length-number_bytes, number_bytes-numbers, spelled-number_bytes, number_bytes-spelled}
use Rattle.ir_memory.proofs.laws.one_spelling.Goals as goal

pub returns-clause-numbers : goal.returns-clause-numbers
returns-clause-numbers c = number_bytes-numbers

pub returns-clause-count : goal.returns-clause-count
returns-clause-count c = length-number_bytes

pub returns-clause-spells : goal.returns-clause-spells
returns-clause-spells c = spelled-number_bytes

pub returns-clause-only : goal.returns-clause-only
returns-clause-only c = number_bytes-spelled
