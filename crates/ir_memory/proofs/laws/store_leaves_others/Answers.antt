use Rattle.std.proofs.Common.{List, ap}
use Rattle.ir_memory.specs.declared.byte.Byte.{Byte}
use Rattle.ir_memory.specs.Spelling.{byte_count, stored_as, loaded_from}
use Rattle.ir_memory.proofs.StoredLemmas.{length-stored_as}
use Rattle.ir_memory.proofs.MemoryLemmas.{sizes_stay, bytes_stay}
use Rattle.ir_memory.proofs.laws.store_leaves_others.Goals as goal

pub returns-clause-sizes : goal.returns-clause-sizes
returns-clause-sizes c memory block offset bits value =
    let count = byte_count bits in
    sizes_stay memory block offset count (stored_as count value) (length-stored_as count value)

pub returns-clause-bytes : goal.returns-clause-bytes
returns-clause-bytes c memory block offset bits value =
    let count = byte_count bits in
    bytes_stay memory block offset count (stored_as count value) (length-stored_as count value)

pub returns-clause-loads : goal.returns-clause-loads
returns-clause-loads c memory block offset bits value inside other place width choice apart =
    let count = byte_count bits in
    let same = length-stored_as count value in
    ap (λ (bytes : List Byte). loaded_from bytes width choice)
    (bytes_stay memory block offset count (stored_as count value) same inside other place (byte_count width) apart)
