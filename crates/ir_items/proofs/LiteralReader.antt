-- Literals are read.
use Rattle.std.proofs.Common.{◌≡◌, ℕ, List, [], ◌∷◌, Some, inl, inr, refl, sym, subst, codes}
use Rattle.std.specs.Str.Parse.{signed_digits_value}
use Rattle.ir_model.specs.declared.op.Operand.{Operand}
use Rattle.ir_model.specs.declared.op.Operand.TheVariants as operand
use Rattle.ir_text.specs.declared.token.TokenKind.{TokenKind}
use Rattle.ir_text.specs.declared.token.TokenKind.TheVariants.{Word, Numeral}
use Rattle.ir_text.specs.Tokens.{Lexeme}
use Rattle.ir_text.specs.Listed.{word}
use Rattle.ir_text.specs.Language.{one}
use Rattle.ir_grammar.specs.Items.{SpellsLiteral}
use Rattle.ir_parts.specs.Tables.{look_up}
use Rattle.ir_parts.specs.Literals.{word_operands, word_operand}
use Rattle.ir_parts.proofs.Readers.{IsReader, Anything, of_language, one_reads}
use Rattle.ir_parts.proofs.LookedUp.{look_up_gives}
use Rattle.ir_items.specs.LiteralReading.{literal_of_parts, literal_of, literal_at}

-- the token's literal is spelled by it
literal_there : (t : Lexeme) (value : Operand) → literal_of t ≡ Some value → SpellsLiteral value (t ∷ [])
unfolding literal_of_parts word_operand
literal_there t value e = of_kind t.kind t.text value e
  where
    SpelledBy : TokenKind → List ℕ → Operand → Type 0
    SpelledBy kind text value = SpellsLiteral value (record { kind = kind; text = text } ∷ [])

    of_word : (text : List ℕ) (value : Operand) → look_up word_operands text ≡ Some value → SpelledBy Word text value
    of_word text value e = look_up_gives (λ text value. SpelledBy Word text value) word_operands text value
        (inr (inl (refl, refl)), (inr (inr (refl, refl)), (refl, (refl, (refl, tt))))) e

    of_kind : (kind : TokenKind) (text : List ℕ) (value : Operand) → literal_of_parts kind text ≡ Some value
        → SpelledBy kind text value
    of_kind Word text value e = of_word text value e
    of_kind Numeral text value e =
        let same : operand.Num (signed_digits_value 10 text) ≡ value = cc in
        subst (λ (value : Operand). SpelledBy Numeral text value) same
        (inl (record { kind = Numeral; text = text }, refl, (refl, refl)))
    of_kind _ text value e = absurd cc

-- what is spelled is one token, with that literal
literal_back : (value : Operand) (ts : List Lexeme) → SpellsLiteral value ts → one (λ t. literal_of t ≡ Some value) ts
unfolding literal_of_parts word_operand
literal_back (operand.Num n) ts (inl l) = (l.0, l.1, rw (l.2.0, l.2.1) refl)
literal_back (operand.Num n) ts (inr (inl l)) = (word (codes "true"), l.1, rw l.0 refl)
literal_back (operand.Num n) ts (inr (inr l)) = (word (codes "false"), l.1, rw l.0 refl)
literal_back operand.Null ts l = (word (codes "null"), l, refl)
literal_back operand.Undef ts l = (word (codes "undef"), l, refl)
literal_back operand.Poison ts l = (word (codes "poison"), l, refl)
literal_back _ ts l = absurd l

pub literal_reads : IsReader literal_at SpellsLiteral Anything
unfolding literal_of_parts word_operand
literal_reads = of_language SpellsLiteral
    (λ value ts l. subst (λ (ts : List Lexeme). SpellsLiteral value ts) (sym l.1) (literal_there l.0 value l.2))
    literal_back
    (one_reads literal_of (λ value t. literal_of t ≡ Some value) (λ value t e. e) (λ value t e. e)
    operand.Null (word (codes "null")) null)
  where
    null : literal_of (word (codes "null")) ≡ Some operand.Null
    null = refl
