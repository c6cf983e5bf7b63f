-- Operands are read.
use Rattle.std.proofs.Common.{◌≡◌, ℕ, List, [], ◌∷◌, Option, Some, None, inl, inr, refl, sym, ap, subst, ◌∙◌, IsTrue, codes}
use Rattle.scev_base.specs.declared.ids.BlockId.{BlockId}
use Rattle.ir_model.specs.declared.op.Operand.{Operand}
use Rattle.std.specs.Str.Parse.{signed_digits_value}
use Rattle.scev_base.specs.declared.ids.ValueId.{ValueId}
use Rattle.ir_model.specs.declared.op.Operand.TheVariants as operand
use Rattle.ir_text.specs.declared.token.TokenKind.{TokenKind}
use Rattle.ir_text.specs.declared.token.TokenKind.TheVariants.{Word, Numeral, Local, Global}
use Rattle.ir_text.specs.Bytes.{is_letter, begins_word}
use Rattle.ir_text.specs.Names.{is_word}
use Rattle.ir_text.specs.Tokens.{Lexeme}
use Rattle.ir_text.specs.Listed.{word, local}
use Rattle.ir_text.specs.Language.{one}
use Rattle.ir_text.specs.Written.{Name, Text}
use Rattle.ir_text.specs.Said.{said_local, said_global}
use Rattle.ir_text.specs.Mentions as mention
use Rattle.ir_text.specs.Mentions.{Mention, ◌⊙◌, silent}
use Rattle.ir_grammar.specs.Operations.{SpellsOperand, SpellsTyped, SpellsPointer, SpellsBlockName, SpellsTarget, SpellsTwo}
use Rattle.ir_parts.proofs.Readers.{Anything, of_language, one_reads}
use Rattle.ir_parts.proofs.TypeReaders.{scalar_types}
use Rattle.ir_body.specs.Tables.{look_up}
use Rattle.ir_parts.specs.Literals.{word_operands, word_operand}
use Rattle.ir_body.specs.Operands.{told_register, told_global, told_word, told_block, operand_of_parts, operand_of, operand_at, typed_at, pointer_at, block_name_at, target_at, two_at}
use Rattle.ir_parts.proofs.SaidNames.{local_there, local_back, global_there, global_back}
use Rattle.ir_body.proofs.WordReaders.{look_up_gives}
use Rattle.ir_body.proofs.Tellers.{IsTeller, silent_tells, both, skip, made_whole, word_tells, sign_tells}

-- ---- single tokens

-- the token's operand is spelled by it
operand_there : (t : Lexeme) (told : Operand × List Mention) → operand_of t ≡ Some told
    → SpellsOperand told.0 told.1 (t ∷ [])
unfolding operand_of_parts word_operand
operand_there t told e = of_kind t.kind t.text told e
  where
    SpelledBy : TokenKind → List ℕ → Operand × List Mention → Type 0
    SpelledBy kind text told = SpellsOperand told.0 told.1 (record { kind = kind; text = text } ∷ [])

    same : (kind : TokenKind) (text : List ℕ) (other told : Operand × List Mention)
        → ◌≡◌ {A = Option (Operand × List Mention)} (Some other) (Some told) → SpelledBy kind text other
        → SpelledBy kind text told
    same kind text other told e l = let is : other ≡ told =
        cc in subst (λ (told : Operand × List Mention). SpelledBy kind text told) is l

    of_register : (text : List ℕ) (said : Option Name) (told : Operand × List Mention)
        → said_local (record { kind = Local; text = text }) ≡ said → told_register said ≡ Some told
        → SpelledBy Local text told
    of_register text None told is e = absurd cc
    of_register text (Some name) told is e =
        same Local text (operand.Reg (record { 0 = 0 }), mention.UsesValue name ∷ []) told e (
          refl,
          (
            name,
            (
              refl,
              (
                record { kind = Local; text = text },
                refl,
                local_there name
                    (record { kind = Local; text = text }) is,
              ),
            ),
          ),
        )

    of_global : (text : List ℕ) (said : Option (List ℕ)) (told : Operand × List Mention)
        → said_global (record { kind = Global; text = text }) ≡ said → told_global said ≡ Some told
        → SpelledBy Global text told
    of_global text None told is e = absurd cc
    of_global text (Some name) told is e =
        same Global text (operand.Global 0, mention.UsesGlobal name ∷ []) told e (
          refl,
          (
            name,
            (
              refl,
              (
                record { kind = Global; text = text },
                refl,
                global_there name
                    (record { kind = Global; text = text }) is,
              ),
            ),
          ),
        )

    of_word : (text : List ℕ) (found : Option Operand) (told : Operand × List Mention)
        → look_up word_operands text ≡ found → told_word found ≡ Some told → SpelledBy Word text told
    of_word text None told is e = absurd cc
    of_word text (Some op) told is e =
        same Word text (op, []) told e
        (look_up_gives (λ text op. SpelledBy Word text (op, [])) word_operands text op (
          (refl, inr (inl (refl, refl))),
          (
            (refl, inr (inr (refl, refl))),
            ((refl, refl), ((refl, refl), ((refl, refl), tt))),
          ),
        ) is)

    of_kind : (kind : TokenKind) (text : List ℕ) (told : Operand × List Mention) → operand_of_parts kind text
        ≡ Some told
        → SpelledBy kind text told
    of_kind Local text told e = of_register text (said_local (record { kind = Local; text = text })) told refl e
    of_kind Global text told e = of_global text (said_global (record { kind = Global; text = text })) told refl e
    of_kind Word text told e = of_word text (look_up word_operands text) told refl e
    of_kind Numeral text told e =
        same Numeral text (operand.Num (signed_digits_value 10 text), []) told e
        (refl, inl (record { kind = Numeral; text = text }, refl, (refl, refl)))
    of_kind _ text told e = absurd cc

-- what is spelled is one token, with that operand
operand_back : (op : Operand) (ms : List Mention) (ts : List Lexeme) → SpellsOperand op ms ts
    → one (λ t. operand_of t ≡ Some (op, ms)) ts
unfolding operand_of_parts word_operand
operand_back (operand.Reg v) ms ts l =
    let t = l.1.1.1.0 in
    let said = local_back l.1.0 t l.1.1.1.2 in (
      t,
      l.1.1.1.1,
      rw (l.1.1.1.2.0, l.1.1.0) (of_said t.text l.1.0 v l.0
          (ap (λ (kind : TokenKind). said_local (record { kind = kind; text = t.text })) (sym l.1.1.1.2.0) ∙ said)),
    )
  where
    of_said : (text : List ℕ) (name : Name) (v : ValueId) → v.0 ≡ 0
        → said_local (record { kind = Local; text = text }) ≡ Some name
        → told_register (said_local (record { kind = Local; text = text }))
        ≡ Some (operand.Reg v, mention.UsesValue name ∷ [])
    of_said text name v is said = rw (said, is) refl
operand_back (operand.Global g) ms ts l =
    let t = l.1.1.1.0 in
    let said = global_back l.1.0 t l.1.1.1.2 in (
      t,
      l.1.1.1.1,
      rw (l.1.1.1.2.0, l.1.1.0) (of_said t.text l.1.0 g l.0
          (ap (λ (kind : TokenKind). said_global (record { kind = kind; text = t.text })) (sym l.1.1.1.2.0) ∙ said)),
    )
  where
    of_said : (text name : List ℕ) (g : ℕ) → g ≡ 0 → said_global (record { kind = Global; text = text }) ≡ Some name
        → told_global (said_global (record { kind = Global; text = text }))
        ≡ Some (operand.Global g, mention.UsesGlobal name ∷ [])
    of_said text name g is said = rw (said, is) refl
operand_back (operand.Num n) ms ts (none, inl l) = (l.0, l.1, rw (l.2.0, l.2.1, none) refl)
operand_back (operand.Num n) ms ts (none, inr (inl l)) = (word (codes "true"), l.1, rw (l.0, none) refl)
operand_back (operand.Num n) ms ts (none, inr (inr l)) = (word (codes "false"), l.1, rw (l.0, none) refl)
operand_back operand.Null ms ts l = (word (codes "null"), l.1, rw l.0 refl)
operand_back operand.Undef ms ts l = (word (codes "undef"), l.1, rw l.0 refl)
operand_back operand.Poison ms ts l = (word (codes "poison"), l.1, rw l.0 refl)

pub operand_tells : IsTeller operand_at SpellsOperand Anything
unfolding operand_at operand_of_parts word_operand
operand_tells = record {
  reader = of_language (λ told ts. SpellsOperand told.0 told.1 ts)
      (λ told ts l. subst (λ (ts : List Lexeme). SpellsOperand told.0 told.1 ts) (sym l.1) (operand_there l.0 told l.2))
      (λ told ts l. operand_back told.0 told.1 ts l)
      (one_reads operand_of (λ told t. operand_of t ≡ Some told) (λ told t e. e) (λ told t e. e)
      (operand.Null, []) (word (codes "null")) null);
}
  where
    null : operand_of (word (codes "null")) ≡ Some (operand.Null, [])
    null = refl

pub block_name_tells : IsTeller block_name_at (λ id. SpellsBlockName id.0) Anything
unfolding block_name_at is_word begins_word is_letter
block_name_tells = record {
  reader = of_language (λ told ts. SpellsBlockName told.0.0 told.1 ts) there back
      (one_reads (λ t. told_block (said_local t)) (λ told t. told_block (said_local t) ≡ Some told) (λ told t e. e)
      (λ told t e. e)
      (record { 0 = 0 }, mention.UsesBlock (Text (codes "a")) ∷ []) (local (codes "a"))
      (ap told_block (local_back (Text (codes "a")) (local (codes "a")) (refl, codes "a", refl, inl (is_a, refl)))));
}
  where
    is_a : IsTrue (is_word (codes "a"))
    is_a = refl

    of_said : (t : Lexeme) (said : Option Name) (told : BlockId × List Mention) (ts : List Lexeme) → ts ≡ t ∷ []
        → said_local t ≡ said
        → told_block said ≡ Some told → SpellsBlockName told.0.0 told.1 ts
    of_said t None told ts e is gives = absurd cc
    of_said t (Some name) told ts e is gives =
        let same : ◌≡◌ {A = BlockId × List Mention} (record { 0 = 0 }, mention.UsesBlock name ∷ []) told = cc in
        subst (λ (told : BlockId × List Mention). SpellsBlockName told.0.0 told.1 ts) same
        (refl, (name, (refl, (t, e, local_there name t is))))

    there : (told : BlockId × List Mention) (ts : List Lexeme) → one (λ t. told_block (said_local t) ≡ Some told) ts
        → SpellsBlockName told.0.0 told.1 ts
    there told ts l = of_said l.0 (said_local l.0) told ts l.1 refl l.2

    back : (told : BlockId × List Mention) (ts : List Lexeme) → SpellsBlockName told.0.0 told.1 ts
        → one (λ t. told_block (said_local t) ≡ Some told) ts
    back told ts l =
        (l.1.1.1.0, l.1.1.1.1, ap told_block (local_back l.1.0 l.1.1.1.0 l.1.1.1.2) ∙ same told l.1.0 l.0 l.1.1.0)
      where
        same : (told : BlockId × List Mention) (name : Name) → told.0.0 ≡ 0 → told.1 ≡ mention.UsesBlock name ∷ []
            → ◌≡◌ {A = Option (BlockId × List Mention)} (Some (record { 0 = 0 }, mention.UsesBlock name ∷ []))
            (Some told)
        same told name is so = rw (is, so) refl

-- ---- operands with what stands before them

pub pointer_tells : IsTeller pointer_at SpellsPointer Anything
unfolding pointer_at
pointer_tells = skip (word_tells (codes "ptr")) operand_tells

pub target_tells : IsTeller target_at (λ id. SpellsTarget id.0) Anything
unfolding target_at
target_tells = skip (word_tells (codes "label")) block_name_tells

pub typed_tells : IsTeller typed_at SpellsTyped Anything
unfolding typed_at
typed_tells = made_whole (λ read. record { kind = read.0; value = read.1 }) (λ typed. (typed.kind, typed.value))
    SpellsTyped (λ typed. refl) (both (silent_tells scalar_types) operand_tells)

pub two_tells : IsTeller two_at (λ two. SpellsTwo two.kind two.left two.right) Anything
unfolding two_at
two_tells = made_whole (λ read. record { kind = read.0; left = read.1.0; right = read.1.1 })
    (λ two. (two.kind, (two.left, two.right))) (λ two. SpellsTwo two.kind two.left two.right) (λ two. refl)
    (both (silent_tells scalar_types) (both operand_tells (skip (sign_tells 44) operand_tells)))
