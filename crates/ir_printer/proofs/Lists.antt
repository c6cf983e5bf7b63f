-- The text of a list of parts.
use Rattle.std.proofs.Common.{◌≡◌, ℕ, List, [], ◌∷◌, ◌++◌, codes, refl, sym, ap, ◌∙◌, append_assoc}
use Rattle.std.specs.List.{flat_map}
use mathlib.Core.Former.{Count}
use Rattle.ir_model.specs.declared.types.IrType.{IrType}
use Rattle.ir_model.specs.declared.item.Init.{Init, more_of-Init, Row_of-InitPart, end_of-InitPart, more_of-InitPart, items-the_row-InitPart, items_hidden-the_row-InitPart-1}
use Rattle.ir_model.specs.declared.item.Init.TheVariants as init
use Rattle.ir_model.specs.declared.item.InitPart.{InitPart}
use Rattle.ir_model.specs.declared.item.Init.TheBlock.{shown-the_row-Init-0}
use denote.Hole.Carrier.{shown}
use Rattle.ir_grammar.specs.Printing.{joined, type_text, init_text, parts_text, others_text}
use Rattle.ir_printer.specs.Parts.{part_line}
use Rattle.ir_printer.proofs.Joined.{joined-cons}

regrouped : (before kind value others : List ℕ)
    → before ++ (kind ++ (32 ∷ (value ++ others))) ≡ (before ++ (kind ++ (32 ∷ value))) ++ others
regrouped before kind value others = simp append_assoc

row_of : Init → (n : Count) × Row_of-InitPart n
row_of (init.List' count parts) = (_, parts)
row_of _ = (_, end_of-InitPart)

others_row : (n : Count) (row : Row_of-InitPart n)
    → others_text row ≡ flat_map (λ (part : InitPart). codes ", " ++ part_line part) (items-the_row-InitPart n row)
unfolding shown-the_row-Init-0 shown
others_row n end_of-InitPart = refl
others_row n (more_of-InitPart kind pointer (more_of-Init value none) rest) =
    ap (λ text. codes ", " ++ (type_text kind ++ (32 ∷ (init_text kind value ++ text)))) (others_row _ rest)
    ∙ regrouped (codes ", ") (type_text kind) (init_text kind value) _

parts_row : (n : Count) (row : Row_of-InitPart n)
    → parts_text row ≡ joined part_line (codes ", ") (items-the_row-InitPart n row)
unfolding shown-the_row-Init-0 shown
parts_row n end_of-InitPart = refl
parts_row n (more_of-InitPart kind pointer (more_of-Init value none) rest) =
    ap (λ text. type_text kind ++ (32 ∷ (init_text kind value ++ text))) (others_row _ rest)
    ∙ regrouped [] (type_text kind) (init_text kind value) _
    ∙ sym (joined-cons part_line (codes ", ") _ (items-the_row-InitPart _ rest))

pub list_text : (kind : IrType) (parts : List InitPart)
    → init_text kind (init.List parts) ≡ codes "[" ++ (joined part_line (codes ", ") parts ++ codes "]")
unfolding row_of
list_text kind parts =
    let row = row_of (init.List parts) in
    ap (λ text. codes "[" ++ (text ++ codes "]")) (parts_row row.0 row.1)
    ∙ ap (λ all. codes "[" ++ (joined part_line (codes ", ") all ++ codes "]")) (items_hidden-the_row-InitPart-1 parts)
