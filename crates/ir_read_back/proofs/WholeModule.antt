-- A text that spells the items of a module as they are printed spells the module with the numerals that are printed.
use Rattle.std.proofs.Common.{ℕ, List, map, sym, subst}
use Rattle.ir_model.specs.declared.item.Module.{Module}
use Rattle.ir_text.specs.Tokens.{Lexeme, AreLexemes}
use Rattle.ir_grammar.specs.Items.{SpellsItems}
use Rattle.ir_grammar.specs.Spelled.{Spells, lexemes_of}
use Rattle.ir_lex.proofs.WithPlaces.{lexemes_are_lexed}
use Rattle.ir_read_back.specs.Normal.{normal}
use Rattle.ir_read_back.proofs.Printed.{printed_draft}
use Rattle.ir_read_back.proofs.NumberedModule.{functions_mention, normal_numbered}

pub spells_normal : (bytes text : List ℕ) (m : Module) (lexemes : List Lexeme) → Spells bytes m
    → AreLexemes text lexemes → SpellsItems (map (printed_draft m.globals) m.items) lexemes → Spells text (normal m)
spells_normal bytes text m lexemes spells are spelled =
    let lexed = (lexemes_are_lexed text lexemes).0 are in
    record {
      placed = lexed.0;
      lexed = lexed.1;
      drafts = map (printed_draft m.globals) m.items;
      spelled = subst (SpellsItems (map (printed_draft m.globals) m.items)) (sym lexed.2) spelled;
      numbered = normal_numbered spells.drafts m
          (functions_mention spells.drafts (lexemes_of spells.placed) spells.spelled) spells.numbered;
    }
