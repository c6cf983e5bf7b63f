-- Initialisers are read.
use Rattle.std.proofs.Common.{ℕ, zero, suc, ◌≤◌, List, [], ◌∷◌, ◌++◌, length, inl, inr, refl, sym, ap, subst, ◌∙◌, append_assoc, arith, codes}
use Rattle.std.proofs.lemmas.List.{length-append}
use Rattle.ir_model.specs.declared.item.Init.{Init}
use Rattle.ir_model.specs.declared.item.Init.TheVariants as init
use Rattle.ir_model.specs.declared.item.InitPart.{InitPart}
use Rattle.ir_text.specs.Tokens.{Lexeme}
use Rattle.ir_text.specs.Listed.{word, sign, SeparatedByCommas}
use Rattle.ir_text.specs.Language.{Language}
use Rattle.ir_grammar.specs.Items.{SpellsInit, SpellsParts}
use Rattle.ir_grammar.specs.Items.SpellsInit.{literal, zero as zeroed, bytes, list}
use Rattle.ir_grammar.specs.Items.SpellsParts.{last, more}
use Rattle.ir_parts.proofs.Readers.{IsReader, Anything}
use Rattle.ir_items.specs.InitReading.{nested_at, init_at}
use Rattle.ir_items.proofs.PlainInits.{SpellsPlain}
use Rattle.ir_items.proofs.PartReaders.{SpellsPart, SpellsList}
use Rattle.ir_items.proofs.InitLevels.{SpellsNested, nested_reads}
use Rattle.ir_items.proofs.Bounded.{bounded_reads}
use Rattle.ir_items.proofs.Nested.{nested_agree}

-- ---- what is spelled with some lists within lists is an initialiser

spelled_plain : (value : Init) (ts : List Lexeme) → SpellsPlain value ts → SpellsInit value ts
spelled_plain value ts (inl l) = subst (λ (value : Init). SpellsInit value ts) (sym l.1) (bytes l.0 l.2)
spelled_plain value ts (inr (inl l)) = subst (λ (value : Init). SpellsInit value ts) (sym l.0) (zeroed l.1)
spelled_plain value ts (inr (inr l)) = subst (λ (value : Init). SpellsInit value ts) (sym l.1) (literal l.0 l.2)

spelled_parts : (Value : Init → Language) → ((value : Init) (ts : List Lexeme) → Value value ts → SpellsInit value ts)
    → (parts : List InitPart) (ts : List Lexeme) → SeparatedByCommas (SpellsPart Value) parts ts → SpellsParts parts ts
spelled_parts Value there [] ts l = absurd l
spelled_parts Value there (part ∷ []) ts l = last part l.0 l.1 l.2 l.3 (there part.init l.1 l.4)
spelled_parts Value there (part ∷ next ∷ parts) ts l =
    let first = l.3 in
    more part (next ∷ parts) first.0 first.1 l.1
    (rw (l.2, first.2) (append_assoc first.0 first.1 (sign 44 ∷ l.1))) first.3 (there part.init first.1 first.4)
    (spelled_parts Value there (next ∷ parts) l.1 l.4)

spelled_list : (Value : Init → Language) → ((value : Init) (ts : List Lexeme) → Value value ts → SpellsInit value ts)
    → (value : Init) (ts : List Lexeme) → SpellsList Value value ts → SpellsInit value ts
spelled_list Value there value ts l =
    let behind = l.2.4 in
    subst (λ (value : Init). SpellsInit value ts) (sym l.1)
    (list l.0 behind.0 (rw (l.2.2, l.2.3, behind.2, behind.4) refl) (spelled_parts Value there l.0 behind.0 behind.3))

nested_there : (most : ℕ) (value : Init) (ts : List Lexeme) → SpellsNested most value ts → SpellsInit value ts
unfolding SpellsNested
nested_there zero value ts l = spelled_plain value ts l
nested_there (suc most) value ts (inl l) = spelled_list (SpellsNested most) (nested_there most) value ts l
nested_there (suc most) value ts (inr l) = spelled_plain value ts l

-- ---- and the other way round, where there are at least as many lists as tokens

plain_nested : (most : ℕ) (value : Init) (ts : List Lexeme) → SpellsPlain value ts → SpellsNested most value ts
unfolding SpellsNested
plain_nested zero value ts l = l
plain_nested (suc most) value ts l = inr l

one_more : (Part : InitPart → Language) (part : InitPart) (parts : List InitPart) (us rest : List Lexeme) → Part part us
    → SeparatedByCommas Part parts rest → SeparatedByCommas Part (part ∷ parts) (us ++ sign 44 ∷ rest)
one_more Part part [] us rest first l = absurd l
one_more Part part (next ∷ parts) us rest first l = (us, rest, refl, first, l)

mutual
  unfolding SpellsNested

  nested_back : {value : Init} {ts : List Lexeme} → SpellsInit value ts → (most : ℕ) → length ts ≤ most
      → SpellsNested most value ts
  nested_back {ts = ts} (literal op l) most short = plain_nested most (init.Literal op) ts (inr (inr (op, refl, l)))
  nested_back {ts = ts} (zeroed l) most short = plain_nested most init.Zero ts (inr (inl (refl, l)))
  nested_back {ts = ts} (bytes text l) most short = plain_nested most (init.Bytes text) ts (inl (text, refl, l))
  nested_back (list parts inner e l) zero short = absurd (omega (arith, ap length e))
  nested_back (list parts inner e l) (suc most) short = inl (
    parts,
    refl,
    (
      sign 91 ∷ [],
      inner ++ sign 93 ∷ [],
      e,
      refl,
      (
        inner,
        sign 93 ∷ [],
        refl,
        parts_back l most (omega (arith, ap length e, length-append inner (sign 93 ∷ []))),
        refl,
      ),
    ),
  )

  parts_back : {parts : List InitPart} {ts : List Lexeme} → SpellsParts parts ts → (most : ℕ) → length ts ≤ most
      → SeparatedByCommas (SpellsPart (SpellsNested most)) parts ts
  parts_back (last part kind value e k v) most short =
      (kind, value, e, k, nested_back v most (omega (arith, ap length e, length-append kind value)))
  parts_back (more part parts kind value rest e k v r) most short =
      let long = ap length e in
      let all = length-append kind (value ++ sign 44 ∷ rest) in
      let others = length-append value (sign 44 ∷ rest) in
      subst (λ (ts : List Lexeme). SeparatedByCommas (SpellsPart (SpellsNested most)) (part ∷ parts) ts)
      (append_assoc kind value (sign 44 ∷ rest) ∙ sym e)
      (one_more (SpellsPart (SpellsNested most)) part parts (kind ++ value) rest
      (kind, value, refl, k, nested_back v most (omega arith)) (parts_back r most (omega arith)))

pub init_reads : IsReader init_at SpellsInit Anything
unfolding init_at
init_reads =
    bounded_reads nested_at SpellsNested Anything nested_reads nested_agree SpellsInit nested_there
    (λ value ts l most short. nested_back l most short) init.Zero (word (codes "zeroinitializer") ∷ []) (zeroed refl)
