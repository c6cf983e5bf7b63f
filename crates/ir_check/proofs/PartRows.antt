-- The parts of an array's initialiser, as a row and as a list.
use Rattle.std.proofs.Common.{◌≡◌, suc, ◌&&◌, List, length, Option, Some, None, refl, ap, ◌∙◌}
use Rattle.std.specs.List.{list_all}
use mathlib.Core.Former.{Count}
use Rattle.ir_model.specs.declared.types.IrType.{IrType}
use Rattle.ir_model.specs.declared.item.Init.{Init, more_of-Init, Row_of-InitPart, end_of-InitPart, more_of-InitPart}
use Rattle.ir_model.specs.declared.item.Init.{items-the_row-InitPart, items_hidden-the_row-InitPart-1}
use Rattle.ir_model.specs.declared.item.Init.TheVariants as init
use Rattle.ir_model.specs.declared.item.InitPart.{InitPart}
use Rattle.ir_model.specs.declared.item.Init.TheBlock.{shown-the_row-Init-0}
use denote.Hole.Carrier.{shown}
use Rattle.ir_rules.specs.Types.{same_type}
use Rattle.ir_rules.specs.Items.{init_fits, parts_fit, parts_of, parts_type, init_in_range, parts_in_range}
use Rattle.ir_check.specs.Parts.{part_fits, all_fit, part_in_range}

row_of : Init → (n : Count) × Row_of-InitPart n
row_of (init.List' count parts) = (_, parts)
row_of _ = (_, end_of-InitPart)

long_row : (n : Count) (row : Row_of-InitPart n) → parts_of row ≡ length (items-the_row-InitPart n row)
long_row n end_of-InitPart = refl
long_row n (more_of-InitPart kind pointer value rest) = ap suc (long_row _ rest)

fits_row : (kind : IrType) (n : Count) (row : Row_of-InitPart n)
    → parts_fit (Some kind) row ≡ list_all (part_fits kind) (items-the_row-InitPart n row)
unfolding shown-the_row-Init-0 shown
fits_row kind n end_of-InitPart = refl
fits_row kind n (more_of-InitPart own pointer (more_of-Init value none) rest) =
    ap (λ x. same_type kind own && init_fits own value && x) (fits_row kind _ rest)

ranges_row : (n : Count) (row : Row_of-InitPart n)
    → parts_in_range row ≡ list_all part_in_range (items-the_row-InitPart n row)
unfolding shown-the_row-Init-0 shown
ranges_row n end_of-InitPart = refl
ranges_row n (more_of-InitPart own pointer (more_of-Init value none) rest) =
    ap (λ x. init_in_range own value && x) (ranges_row _ rest)

fits_so : (type : Option IrType) (n : Count) (row : Row_of-InitPart n)
    → parts_fit type row ≡ all_fit type (items-the_row-InitPart n row)
fits_so None n row = refl
fits_so (Some kind) n row = fits_row kind n row

pub list_fits : (kind : IrType) (parts : List InitPart)
    → init_fits kind (init.List parts) ≡ all_fit (parts_type kind (length parts)) parts
unfolding row_of
list_fits kind parts =
    let row = row_of (init.List parts) in
    ap (λ n. parts_fit (parts_type kind n) row.1) (long_row row.0 row.1)
    ∙ (fits_so _ row.0 row.1
    ∙ ap (λ all. all_fit (parts_type kind (length all)) all) (items_hidden-the_row-InitPart-1 parts))

pub list_in_range : (kind : IrType) (parts : List InitPart)
    → init_in_range kind (init.List parts) ≡ list_all part_in_range parts
unfolding row_of
list_in_range kind parts =
    let row = row_of (init.List parts) in
    ranges_row row.0 row.1
    ∙ ap (λ all. list_all part_in_range all) (items_hidden-the_row-InitPart-1 parts)
