-- A module that a text spells is well made.
use Rattle.std.proofs.Common.{ℕ, List, [], ◌∷◌, All, sym, subst}
use Rattle.std.proofs.lemmas.List.Elements.{All-nil, All-cons}
use Rattle.ir_model.specs.declared.function.Function.{Function}
use Rattle.ir_model.specs.declared.item.Item.{Item}
use Rattle.ir_model.specs.declared.item.Item.TheVariants as item
use Rattle.ir_model.specs.declared.item.Module.{Module}
use Rattle.ir_model.specs.WellMade.{IsWellMade, IsWellMadeItem, AreWellMade}
use Rattle.ir_text.specs.Tokens.{Lexeme}
use Rattle.ir_text.specs.Mentions.{Mention}
use Rattle.ir_text.specs.Sites.{Draft, bare_function}
use Rattle.ir_grammar.specs.Items.{SpellsDraft, SpellsItems}
use Rattle.ir_grammar.specs.Numbering.{EachMatches, IsNumbered, IsNumberedItem}
use Rattle.ir_grammar.specs.Spelled.{Spells, lexemes_of}
use Rattle.ir_read_back.proofs.HaveIds.{function_has_ids}
use Rattle.ir_read_back.proofs.FormedFunctions.{IsFormedFunction, formed_function}
use Rattle.ir_read_back.proofs.BareForms.{function_with_ids}

-- what is of its form without its ids, and has them
well_made : (globals : List (List ℕ)) (ms : List Mention) (f : Function) → IsNumbered globals ms f
    → IsFormedFunction (bare_function f) → IsWellMade f
well_made globals ms f numbered bare =
    let formed = function_with_ids f bare in
    record {
      ids = function_has_ids globals ms f numbered;
      types = numbered.types;
      ret = formed.ret;
      params = formed.params;
      some_block = formed.some_block;
      blocks = formed.blocks;
    }

well_made_item : (globals : List (List ℕ)) (draft : Draft) (x : Item) (ts : List Lexeme)
    → SpellsDraft draft.item draft.mentions ts → IsNumberedItem globals draft x → IsWellMadeItem x
well_made_item globals draft (item.Define f) ts spelled numbered =
    let bare = subst (λ y. SpellsDraft y draft.mentions ts) (sym numbered.0) spelled in
    well_made globals draft.mentions f numbered.1 (formed_function (bare_function f) draft.mentions ts bare)
well_made_item globals draft (item.PassedOn text) ts spelled numbered = tt
well_made_item globals draft (item.Global g) ts spelled numbered = tt
well_made_item globals draft (item.Declare d) ts spelled numbered = tt

well_made_items : (globals : List (List ℕ)) (drafts : List Draft) (xs : List Item) (ts : List Lexeme)
    → SpellsItems drafts ts → EachMatches (IsNumberedItem globals) drafts xs → All IsWellMadeItem xs
well_made_items globals drafts [] ts spelled numbered = All-nil IsWellMadeItem
well_made_items globals [] (x ∷ xs) ts spelled numbered = absurd numbered
well_made_items globals (draft ∷ drafts) (x ∷ xs) ts
    (us, vs, are, dropped, (own, behind, parts, spelled, others, apart)) numbered =
    All-cons IsWellMadeItem x xs (well_made_item globals draft x own spelled numbered.0)
    (well_made_items globals drafts xs behind others numbered.1)

pub spelled_is_well_made : (bytes : List ℕ) (m : Module) → Spells bytes m → AreWellMade m
spelled_is_well_made bytes m spells =
    well_made_items m.globals spells.drafts m.items (lexemes_of spells.placed) spells.spelled spells.numbered.items_are
