-- What a text of bytes spells can be printed: what is shown of its ids says their names.
use Rattle.std.proofs.Common.{◌++◌, ◌^◌, suc, ◌≡◌, ℕ, ◌≤◌, List, [], ◌∷◌, length, refl, sym, ap, subst, arith, length-append}
use Rattle.ir_model.specs.declared.item.Item.{Item}
use Rattle.ir_model.specs.declared.item.Item.TheVariants as item
use Rattle.ir_model.specs.declared.item.Module.{Module}
use Rattle.ir_text.specs.Tokens.{Lexeme, Placed}
use Rattle.ir_text.specs.Mentions.{Mention}
use Rattle.ir_model.specs.Sites.{function_sites}
use Rattle.ir_text.specs.Sites.{Draft, without_ids, bare_function}
use Rattle.ir_grammar.specs.Items.{SpellsDraft, SpellsItems}
use Rattle.ir_grammar.specs.Numbering.{EachMatches, NumberedFunction, IsNumberedItem}
use Rattle.ir_grammar.specs.Printing.{shown_in}
use Rattle.ir_grammar.specs.Spelled.{lexemes_of, Spells}
use Rattle.ir_read_back.proofs.Printed.{names_of}
use Rattle.ir_printer.proofs.QuotedNames.{AreBytes}
use Rattle.ir_read_back.proofs.Carried.{Carries}
use Rattle.ir_read_back.proofs.CarriedFunctions.{function_carries}
use Rattle.ir_read_back.proofs.Fitting.{mentions_within}
use Rattle.ir_read_back.proofs.ShownNames.{sites_shown}
use Rattle.ir_read_back.proofs.Named.{AreShown}
use Rattle.ir_read_back.proofs.LexedBytes.{tokens_fewer, tokens_are_real}
use Rattle.ir_read_back.proofs.Real.{Each, AreReal, IsReal, each-left, each-right}

-- What is shown of a function's ids says the names that are printed for them.
abbrev pub IdsAreShown : List (List ℕ) → Item → Type 0
IdsAreShown globals (item.Define f) = AreShown (shown_in globals f) (names_of globals f) (function_sites f)
IdsAreShown globals _ = Unit {0}

-- Some real tokens spell the item without its ids, and its ids are shown.
pub record IsPrintable (globals : List (List ℕ)) (x : Item) : Type 0 where
  pub mentions : List Mention
  pub lexemes : List Lexeme
  pub spelled : SpellsDraft (without_ids x) mentions lexemes
  pub real : AreReal lexemes
  pub shown : IdsAreShown globals x

ids_shown : (globals : List (List ℕ)) (x : Item) (ms : List Mention) (ts : List Lexeme)
    → SpellsDraft (without_ids x) ms ts → NumberedFunction globals ms x → AreReal ts → length ts ≤ 2 ^ 64
    → IdsAreShown globals x
ids_shown globals (item.PassedOn text) ms ts spelled numbered real few = tt
ids_shown globals (item.Global g) ms ts spelled numbered real few = tt
ids_shown globals (item.Declare d) ms ts spelled numbered real few = tt
ids_shown globals (item.Define f) ms ts spelled numbered real few =
    let carries : Carries 0 1 ms ts = function_carries (bare_function f) ms ts spelled in
    sites_shown globals f (mentions_within globals ms f numbered (carries.bytes real) (2 ^ 64)
    (omega (arith, carries.room)))

items_printable : (globals : List (List ℕ)) (drafts : List Draft) (xs : List Item) (ts : List Lexeme)
    → SpellsItems drafts ts → EachMatches (IsNumberedItem globals) drafts xs → AreReal ts
    → length ts ≤ 2 ^ 64 → Each (IsPrintable globals) xs
items_printable globals [] [] ts spelled match real few = tt
items_printable globals (draft ∷ drafts) (x ∷ xs) ts s match real few =
    let one = s.4 in
    let rest : AreReal s.1 = each-right IsReal s.0 s.1 (subst AreReal s.2 real) in
    let split : AreReal (one.0 ++ one.1) = subst AreReal one.2 rest in
    let here : AreReal one.0 = each-left IsReal one.0 one.1 split in
    let bare : SpellsDraft (without_ids x) draft.mentions one.0 =
    subst (λ (y : Item). SpellsDraft y draft.mentions one.0) (sym match.0.0) one.3 in
    let first : length one.0 ≤ 2 ^ 64 =
    omega (arith, ap length s.2, ap length one.2, length-append s.0 s.1, length-append one.0 one.1) in
    let later : length one.1 ≤ 2 ^ 64 =
    omega (arith, ap length s.2, ap length one.2, length-append s.0 s.1, length-append one.0 one.1) in (
      record {
        mentions = draft.mentions;
        lexemes = one.0;
        spelled = bare;
        real = here;
        shown = ids_shown globals x draft.mentions one.0 bare match.0.1 here first;
      },
      items_printable globals drafts xs one.1 one.4 match.1 (each-right IsReal one.0 one.1 split) later,
    )
items_printable globals [] (x ∷ xs) ts spelled match real few = absurd match
items_printable globals (draft ∷ drafts) [] ts spelled match real few = absurd match

as_many_lexemes : (placed : List Placed) → length (lexemes_of placed) ≡ length placed
as_many_lexemes [] = refl
as_many_lexemes (p ∷ placed) = ap suc (as_many_lexemes placed)

-- Each item of a module that bytes spell can be printed.
pub module_printable : (bytes : List ℕ) (m : Module) → Spells bytes m → AreBytes bytes
    → length bytes ≤ 2 ^ 64 → Each (IsPrintable m.globals) m.items
module_printable bytes m spells are few =
    items_printable m.globals spells.drafts m.items (lexemes_of spells.placed) spells.spelled
    spells.numbered.items_are (tokens_are_real spells.lexed are)
    (omega (arith, tokens_fewer spells.lexed, as_many_lexemes spells.placed))
