use Rattle.std.proofs.Common.{◌≡◌, ◌∷◌, ◌++◌, take}
use Rattle.std.specs.List.{flat_map}
use Rattle.ir_grammar.specs.Printing.{behind_space}
use Rattle.ir_printer.proofs.items.push_runs.Given as goal

-- The runs so far are printed.
abbrev pub invariant-loop-words : goal.invariant-loop-words
invariant-loop-words l = l.out.items
    ≡ l.initial.out.items ++ flat_map (λ words. 44 ∷ behind_space words) (take l.words-index l.runs)
