-- The parts of an array's initialiser, as a row and as a list.
use Rattle.std.proofs.Common.{◌≡◌, List, ◌++◌, refl, ap, ◌∙◌}
use mathlib.Core.Former.{Count}
use Rattle.ir_model.specs.declared.types.IrType.{IrType}
use Rattle.ir_model.specs.declared.item.Init.{Init, more_of-Init, Row_of-InitPart, end_of-InitPart, more_of-InitPart}
use Rattle.ir_model.specs.declared.item.Init.{items-the_row-InitPart, items_hidden-the_row-InitPart-1}
use Rattle.ir_model.specs.declared.item.Init.TheVariants as init
use Rattle.ir_model.specs.declared.item.InitPart.{InitPart}
use Rattle.ir_model.specs.declared.item.Init.TheBlock.{shown-the_row-Init-0}
use denote.Hole.Carrier.{shown}
use Rattle.ir_eval.specs.Globals.{init_bytes, parts_bytes}
use Rattle.ir_eval.specs.Parts.{all_bytes}

row_of : Init → (n : Count) × Row_of-InitPart n
row_of (init.List' count parts) = (_, parts)
row_of _ = (_, end_of-InitPart)

bytes_row : (n : Count) (row : Row_of-InitPart n) → parts_bytes row ≡ all_bytes (items-the_row-InitPart n row)
unfolding shown-the_row-Init-0 shown
bytes_row n end_of-InitPart = refl
bytes_row n (more_of-InitPart own pointer (more_of-Init value none) rest) =
    ap (λ x. init_bytes own value ++ x) (bytes_row _ rest)

pub list_bytes : (kind : IrType) (parts : List InitPart) → init_bytes kind (init.List parts) ≡ all_bytes parts
unfolding row_of
list_bytes kind parts =
    let row = row_of (init.List parts) in
    bytes_row row.0 row.1 ∙ ap all_bytes (items_hidden-the_row-InitPart-1 parts)
