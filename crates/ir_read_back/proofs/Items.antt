-- Items as they are printed, one by one and all together.
use Rattle.std.proofs.Common.{◌≡◌, ℕ, List, [], ◌∷◌, ◌++◌, map, flat_map, refl, sym, subst, ◌∙◌, inl, inr, codes}
use Rattle.ir_model.specs.declared.item.Item.{Item}
use Rattle.ir_model.specs.declared.item.Item.TheVariants as item
use Rattle.ir_model.specs.declared.item.Global_.{Global_}
use Rattle.ir_model.specs.declared.function.Function.{Function}
use Rattle.ir_text.specs.declared.token.TokenKind.TheVariants.{Global, Metadata}
use Rattle.ir_text.specs.Tokens.{Lexeme, AreLexemes}
use Rattle.ir_text.specs.Listed.{word}
use Rattle.ir_text.specs.Language.{Language, ◌·◌, keyword, none}
use Rattle.ir_text.specs.Mentions.{Mention}
use Rattle.ir_text.specs.Sites.{without_ids}
use Rattle.ir_grammar.specs.Items.{passed_line, SpellsGlobal, SpellsDraft, EndsApart, SpellsItems}
use Rattle.ir_grammar.specs.Functions.{SpellsFunction}
use Rattle.ir_grammar.specs.Printing.{item_text}
use Rattle.ir_read_back.specs.Normal.{normal_item}
use Rattle.ir_read_back.proofs.Declares.{declare_rewrites}
use Rattle.ir_read_back.proofs.Functions.{function_rewrites}
use Rattle.ir_read_back.proofs.Globals.{global_rewrites}
use Rattle.ir_read_back.proofs.Lines.{line_rewrites}
use Rattle.ir_read_back.proofs.Printable.{IdsAreShown, IsPrintable}
use Rattle.ir_read_back.proofs.Printed.{names_of, item_mentions, printed_draft}
use Rattle.ir_read_back.proofs.Real.{Each}
use Rattle.ir_read_back.proofs.Steps.{no_lexemes}
use Rattle.ir_read_back.proofs.Writes.{Anything, Rewrites}

-- ---- what an item begins with

-- a token that is no metadata
record BeginsPlain (ts : List Lexeme) : Type 0 where
  first : Lexeme
  others : List Lexeme
  tokens_are : ts ≡ first ∷ others
  no_metadata : first.kind ≡ Metadata → ⊥

word_begins : (w : List ℕ) (L : Language) (ts : List Lexeme) → (keyword w · L) ts → BeginsPlain ts
word_begins w L ts (own, rest, is, own_is, others) =
    record { first = word w; others = rest; tokens_are = rw (is, own_is) refl; no_metadata = λ metadata. cc }

line_begins : (ts : List Lexeme) → passed_line ts → BeginsPlain ts
line_begins ts spelled = elim spelled [
  | inl line ↦ word_begins _ _ ts line
  | inr other ↦ elim other [
    | inl line ↦ word_begins _ _ ts line
    | inr other ↦ elim other [
      | inl line ↦ word_begins _ _ ts line
      | inr line ↦ word_begins _ _ ts line
    ]
  ]
]

global_begins : (g : Global_) (ts : List Lexeme) → SpellsGlobal g ts → BeginsPlain ts
global_begins g ts (pieces, (own, rest, is, (t, own_is, named), others)) = record {
  first = t;
  others = rest;
  tokens_are = rw (is, own_is) refl;
  no_metadata = λ metadata. other (sym named.0 ∙ metadata);
}
  where
    other : Global ≡ Metadata → ⊥
    other is = cc

function_begins : (f : Function) (ms : List Mention) (ts : List Lexeme) → SpellsFunction f ms ts → BeginsPlain ts
function_begins f ms ts (_, _, _, _, _, _, (_, _, _, (own, rest, is, first, others))) =
    record {
      first = word (codes "define");
      others = rest;
      tokens_are = rw (is, first.1) refl;
      no_metadata = λ metadata. cc;
    }

draft_begins : (x : Item) (ms : List Mention) (ts : List Lexeme) → SpellsDraft x ms ts → BeginsPlain ts
draft_begins (item.PassedOn text) ms ts spelled = line_begins ts spelled.1.0
draft_begins (item.Global g) ms ts spelled = global_begins g ts spelled.1
draft_begins (item.Declare d) ms ts spelled = word_begins _ _ ts spelled.1.1
draft_begins (item.Define f) ms ts spelled = function_begins f ms ts spelled

-- Metadata doesn't begin the tokens.
abbrev pub NoMetadataFirst : List Lexeme → Type 0
NoMetadataFirst ts = (t : Lexeme) (more : List Lexeme) → ts ≡ t ∷ more → t.kind ≡ Metadata → ⊥

no_metadata_first : (own behind : List Lexeme) → BeginsPlain own → NoMetadataFirst (own ++ behind)
no_metadata_first own behind begins t more is metadata =
    let plain : begins.first ∷ (begins.others ++ behind) ≡ t ∷ more =
    subst (λ ts. ts ++ behind ≡ t ∷ more) begins.tokens_are is in
    begins.no_metadata cc

-- ---- items

module _ (globals : List (List ℕ)) where
  -- An item is printed as the same, with its numbers as they are printed.
  pub item_rewrites : (x : Item)
      → IdsAreShown globals x
      → Rewrites Anything (SpellsDraft (without_ids x)) (SpellsDraft (without_ids (normal_item x)))
      (item_mentions globals x) (item_text globals x)
  item_rewrites (item.PassedOn text) shown = line_rewrites text
  item_rewrites (item.Global g) shown = global_rewrites g
  item_rewrites (item.Declare d) shown = declare_rewrites d
  item_rewrites (item.Define f) shown = function_rewrites globals (names_of globals f) f shown

  -- The text of items is tokens that spell them, with their numbers as they are printed.
  pub record WritesItems (xs : List Item) : Type 0 where
    pub lexemes : List Lexeme
    pub spelled : SpellsItems (map (printed_draft globals) xs) lexemes
    pub lexed : AreLexemes (flat_map (item_text globals) xs) lexemes
    pub plain : NoMetadataFirst lexemes

  pub items_write : (xs : List Item) → Each (IsPrintable globals) xs → WritesItems xs
  items_write [] each = record { lexemes = []; spelled = none; lexed = no_lexemes; plain = λ t more is metadata. cc }
  items_write (x ∷ xs) each =
      let printable = each.0 in
      let own = (item_rewrites x printable.shown).writes printable.mentions printable.lexemes printable.spelled
      printable.real in
      let others = items_write xs each.1 in
      let apart : EndsApart own.lexemes others.lexemes = λ before more t ends is. others.plain t more is in
      record {
        lexemes = own.lexemes ++ others.lexemes;
        spelled = ([], _, refl, none, (own.lexemes, others.lexemes, refl, own.spelled, others.spelled, apart));
        lexed = own.lexed (flat_map (item_text globals) xs) others.lexemes tt others.lexed;
        plain = no_metadata_first own.lexemes others.lexemes
            (draft_begins (without_ids (normal_item x)) (item_mentions globals x) own.lexemes own.spelled);
      }
