-- The printed text of a module that a text of bytes spells spells the module with the numerals that are printed.
use Rattle.std.proofs.Common.{ℕ, ◌^◌, ◌<◌, ◌≤◌, List, [], ◌∷◌, length, All}
use Rattle.std.proofs.lemmas.List.Elements.{All-head, All-tail}
use Rattle.ir_model.specs.declared.item.Module.{Module}
use Rattle.ir_grammar.specs.Printing.{module_text}
use Rattle.ir_grammar.specs.Spelled.{Spells}
use Rattle.ir_printer.proofs.QuotedNames.{AreBytes}
use Rattle.ir_read_back.specs.Normal.{normal}
use Rattle.ir_read_back.proofs.Items.{WritesItems, items_write}
use Rattle.ir_read_back.proofs.Printable.{module_printable}
use Rattle.ir_read_back.proofs.WholeModule.{spells_normal}

bytes_are : (bytes : List ℕ) → All (λ b. b < 2 ^ 8) bytes → AreBytes bytes
unfolding AreBytes
bytes_are [] all = tt
bytes_are (b ∷ bs) all =
    (All-head (λ n. n < 2 ^ 8) b bs all, bytes_are bs (All-tail (λ n. n < 2 ^ 8) b bs all))

pub reads_back : (bytes : List ℕ) (m : Module) → All (λ b. b < 2 ^ 8) bytes → length bytes ≤ 2 ^ 64 → Spells bytes m
    → Spells (module_text m) (normal m)
unfolding module_text
reads_back bytes m all few spells =
    let printed : WritesItems m.globals m.items =
    items_write m.globals m.items (module_printable bytes m spells (bytes_are bytes all) few) in
    spells_normal bytes (module_text m) m printed.lexemes spells printed.lexed printed.spelled
