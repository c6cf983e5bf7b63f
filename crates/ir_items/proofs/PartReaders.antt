-- The parts of lists are read, where their initialisers are.
use Rattle.std.proofs.Common.{◌≡◌, true, suc, List, [], ◌∷◌, ◌++◌, length, Err, refl, sym, subst}
use Rattle.ir_model.specs.declared.types.IrType.{IrType}
use Rattle.ir_model.specs.declared.item.Init.{Init}
use Rattle.ir_model.specs.declared.item.Init.TheVariants as init
use Rattle.ir_model.specs.declared.item.InitPart.{InitPart}
use Rattle.ir_text.specs.Tokens.{Lexeme}
use Rattle.ir_text.specs.Listed.{sign, SeparatedByCommas}
use Rattle.ir_text.specs.Language.{Language, ◌·◌, punctuation}
use Rattle.ir_model.specs.Kinds.{IsStored}
use Rattle.ir_text.specs.Types.{SpellsTypeOf}
use Rattle.ir_parts.specs.Reading.{Read, ◌>>=◌, pure, is_punctuation, punctuation_at}
use Rattle.ir_parts.specs.ListReading.{with_commas_at}
use Rattle.ir_parts.proofs.Readers.{StopsAt, IsReader, Anything, of_language, mapped, followed}
use Rattle.ir_parts.proofs.Combined.{behind_token, stands_for, not_at_first}
use Rattle.ir_parts.proofs.ListReaders.{StopLast, with_commas_read}
use Rattle.ir_parts.proofs.Together.{both_read_on}
use Rattle.ir_parts.proofs.SingleTokens.{sign_reads}
use Rattle.ir_parts.proofs.TypeReaders.{stored_types}
use Rattle.ir_items.specs.InitReading.{part_at, list_at}

abbrev pub SpellsPart : (Init → Language) → InitPart → Language
SpellsPart Value part = SpellsTypeOf IsStored part.kind · Value part.init

abbrev pub SpellsList : (Init → Language) → Init → Language
SpellsList Value value ts = (parts : List InitPart) × (value ≡ init.List parts)
    × (punctuation 91 · SeparatedByCommas (SpellsPart Value) parts · punctuation 93) ts

module _ {value : Read Init} {Value : Init → Language} (value_reads : IsReader value Value Anything) where
  pub part_reads : IsReader (part_at value) (SpellsPart Value) Anything
  unfolding part_at
  part_reads = of_language (SpellsPart Value) there back
      (mapped make Anything (λ x t s. tt) (λ x t s. tt) (both_read_on stored_types value_reads))
    where
      make : IrType × Init → InitPart
      make p = record { kind = p.0; init = p.1 }

      there : (part : InitPart) (ts : List Lexeme)
          → (p : IrType × Init) × (part ≡ make p) × (SpellsTypeOf IsStored p.0 · Value p.1) ts → SpellsPart Value part
          ts
      there part ts l = subst (λ (part : InitPart). SpellsPart Value part ts) (sym l.1) l.2

      back : (part : InitPart) (ts : List Lexeme) → SpellsPart Value part ts
          → (p : IrType × Init) × (part ≡ make p) × (SpellsTypeOf IsStored p.0 · Value p.1) ts
      back part ts l = ((part.kind, part.init), refl, l)

  -- behind the bracket that opens
  SpellsInside : Init → Language
  SpellsInside list ts = (parts : List InitPart) × (SeparatedByCommas (SpellsPart Value) parts
      · (λ ts. (list ≡ init.List parts) × punctuation 93 ts)) ts

  inside_reads : IsReader (with_commas_at (part_at value) >>= λ parts. punctuation_at 93 >>= λ _. pure (init.List
      parts))
      SpellsInside Anything
  unfolding SpellsInside
  inside_reads =
      followed (λ parts. punctuation_at 93 >>= λ _. pure (init.List parts))
      (λ parts list ts. (list ≡ init.List parts) × punctuation 93 ts) Anything (with_commas_read part_reads (λ part t
      e. tt))
      (λ parts. stands_for (init.List parts) (sign_reads 93))
      (λ parts list taken rest l stops. subst (λ (taken : List Lexeme). StopsAt (StopLast Anything parts) (taken ++
      rest))
      (sym l.1) (closes parts))
    where
      closes : (parts : List InitPart) → StopLast Anything parts (sign 93)
      closes [] = refl
      closes (part ∷ []) = (refl, tt)
      closes (part ∷ next ∷ parts) = closes (next ∷ parts)

  pub list_reads : IsReader (list_at value) (SpellsList Value) Anything
  unfolding list_at SpellsInside
  list_reads = of_language (SpellsList Value) there back (behind_token (sign_reads 91) inside_reads)
    where
      there : (list : Init) (ts : List Lexeme) → (punctuation 91 · SpellsInside list) ts → SpellsList Value list ts
      there list ts l = let inner = l.4 in
          (inner.0, inner.1.4.0, (l.0, l.1, l.2, l.3, (inner.1.0, inner.1.1, inner.1.2, inner.1.3, inner.1.4.1)))

      back : (list : Init) (ts : List Lexeme) → SpellsList Value list ts → (punctuation 91 · SpellsInside list) ts
      back list ts l = let all = l.2 in
          (all.0, all.1, all.2, all.3, (l.0, (all.4.0, all.4.1, all.4.2, all.4.3, (l.1, all.4.4))))

  -- A list goes on behind its bracket.
  pub list_begun : (t : Lexeme) (ts : List Lexeme) → is_punctuation 91 t ≡ true
      → list_at value (t ∷ ts) ≡ Err (suc (length ts)) → ⊥
  unfolding list_at
  list_begun t ts passed e = not_at_first (is_punctuation 91) inside_reads t ts passed e
