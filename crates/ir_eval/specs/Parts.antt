-- The parts of an initialiser as they are seen, and bytes that are appended.
use Rattle.std.specs.Prelude.{◌≡◌, true, List, ◌++◌, flat_map}
use Rattle.std.specs.List.{list_all}
use Rattle.ir_model.specs.declared.item.InitPart.{InitPart}
use Rattle.ir_memory.specs.declared.byte.Byte.{Byte}
use Rattle.ir_memory.specs.Memory.{is_byte}
use Rattle.ir_eval.specs.Globals.{init_bytes}

abbrev pub all_bytes : List InitPart → List Byte
all_bytes parts = flat_map (λ (part : InitPart). init_bytes part.kind part.init) parts

-- A list of bytes goes on with others, each of which fits its type.
pub record GoesOn (old new bytes : List Byte) : Type 0 where
  pub behind : new ≡ old ++ bytes
  pub fit : list_all is_byte bytes ≡ true
