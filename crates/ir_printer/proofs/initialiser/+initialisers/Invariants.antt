use Rattle.std.proofs.Common.{◌≡◌, ◌++◌, codes, take}
use Rattle.std.specs.List.{flat_map}
use Rattle.ir_model.specs.declared.item.InitPart.{InitPart}
use Rattle.ir_printer.specs.Parts.{part_line}
use Rattle.ir_printer.proofs.initialiser.+initialisers.Given as goal

-- Behind the first, each part so far is printed behind a comma.
abbrev pub invariant-push_parts-loop-part : goal.invariant-push_parts-loop-part
invariant-push_parts-loop-part l = l.out.items ≡ l.initial.out.items
    ++ flat_map (λ (part : InitPart). codes ", " ++ part_line part) (take l.part-index l.rest)
