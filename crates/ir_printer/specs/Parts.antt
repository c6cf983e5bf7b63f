-- The text of a part of an array's initialiser.
use Rattle.std.specs.Prelude.{ℕ, List, ◌∷◌, ◌++◌}
use Rattle.ir_model.specs.declared.item.InitPart.{InitPart}
use Rattle.ir_grammar.specs.Printing.{type_text, init_text}

-- its type, and its initialiser
abbrev pub part_line : InitPart → List ℕ
part_line part = type_text part.kind ++ (32 ∷ init_text part.kind part.init)
