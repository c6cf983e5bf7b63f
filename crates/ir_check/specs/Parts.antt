-- The parts of an array's initialiser, as a list.
use Rattle.std.specs.Prelude.{Bool, false, ◌&&◌, List, Option, Some, None}
use Rattle.std.specs.List.{list_all}
use Rattle.ir_model.specs.declared.types.IrType.{IrType}
use Rattle.ir_model.specs.declared.item.InitPart.{InitPart}
use Rattle.ir_rules.specs.Types.{same_type}
use Rattle.ir_rules.specs.Items.{init_fits, init_in_range}

-- A part is of a type, and what it holds of the part's own.
abbrev pub part_fits : IrType → InitPart → Bool
part_fits kind part = same_type kind part.kind && init_fits part.kind part.init

-- The parts are all of a type, where there is one.
abbrev pub all_fit : Option IrType → List InitPart → Bool
all_fit None parts = false
all_fit (Some kind) parts = list_all (part_fits kind) parts

-- The numerals of a part are in range.
abbrev pub part_in_range : InitPart → Bool
part_in_range part = init_in_range part.kind part.init
