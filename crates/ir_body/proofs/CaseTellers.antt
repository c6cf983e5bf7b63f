-- Switches are read, from behind their opcode.
use Rattle.std.proofs.Common.{◌≡◌, ℕ, true, false, List, [], ◌∷◌, ◌++◌, Some, inl, inr, refl, sym, ap, subst, ◌∙◌, codes}
use Rattle.std.specs.Prelude.{ℤ, pos}
use Rattle.scev_base.specs.declared.ids.BlockId.{BlockId}
use Rattle.ir_model.specs.declared.op.Case.{Case}
use Rattle.ir_model.specs.declared.op.TypedOperand.{TypedOperand}
use Rattle.ir_model.specs.declared.op.Op.TheVariants.{Switch, Unreachable}
use Rattle.ir_text.specs.declared.token.TokenKind.{TokenKind}
use Rattle.ir_text.specs.declared.token.TokenKind.TheVariants.{Word, Numeral}
use Rattle.ir_text.specs.Tokens.{Lexeme}
use Rattle.ir_text.specs.Listed.{word, sign}
use Rattle.ir_text.specs.Language.{one}
use Rattle.ir_text.specs.Mentions.{Mention, Mentioning, ◌⊙◌, silent, InOrder}
use Rattle.ir_grammar.specs.Operations.{SpellsNumber, SpellsCase, SpellsTyped, SpellsTarget, the_comma, the_sign}
use Rattle.ir_parts.specs.Reading.{begins}
use Rattle.ir_parts.proofs.Readers.{IsReader, Anything, of_language, of_stop, one_reads, begins_still}
use Rattle.ir_parts.proofs.NoneGoesOn.{Begins, refused_there}
use Rattle.ir_parts.proofs.Combined.{pure_reads}
use Rattle.ir_parts.proofs.Repeated.{Behind, repeated}
use Rattle.ir_parts.proofs.TypeReaders.{scalar_types}
use Rattle.ir_body.specs.declared.operation.Operation.{Operation}
use Rattle.ir_body.specs.Plain.{plain}
use Rattle.ir_body.specs.Cases.{number_words, number_word, number_of_parts, number_of, number_at, case_at, begins_scalar, cases_at, switch_at, unreachable_at}
use Rattle.ir_body.proofs.Tellers.{IsTeller, IsMade, silent_tells, skip, both, kept_told, made_told, made_whole, sign_tells}
use Rattle.ir_body.proofs.WordReaders.{look_up_gives}
use Rattle.ir_body.proofs.OperandTellers.{typed_tells, target_tells}
use Rattle.ir_body.proofs.GatheredTellers.{gathered_tells, in_order, from_order}
use Rattle.ir_body.proofs.TypeFirst.{scalar_begins, scalar_begun}

-- ---- numbers

number_there : (kind : TokenKind) (text : List ℕ) (n : ℤ) → number_of_parts kind text ≡ Some n
    → SpellsNumber n (record { kind = kind; text = text } ∷ [])
unfolding number_word
number_there Numeral text n e = inl (record { kind = Numeral; text = text }, refl, (refl, cc))
number_there Word text n e =
    look_up_gives (λ text n. SpellsNumber n (word text ∷ [])) number_words text n
    (inr (inl (refl, refl)), (inr (inr (refl, refl)), tt)) e
number_there _ text n e = absurd cc

number_back : (n : ℤ) (ts : List Lexeme) → SpellsNumber n ts → one (λ t. number_of t ≡ Some n) ts
unfolding number_word
number_back n ts (inl l) = (l.0, l.1, rw (l.2.0, l.2.1) refl)
number_back n ts (inr (inl l)) = (word (codes "true"), l.1, rw l.0 refl)
number_back n ts (inr (inr l)) = (word (codes "false"), l.1, rw l.0 refl)

pub number_reads : IsReader number_at SpellsNumber Anything
unfolding number_at number_word
number_reads = of_language SpellsNumber
    (λ n ts l. subst (λ (ts : List Lexeme). SpellsNumber n ts) (sym l.1) (number_there l.0.kind l.0.text n l.2))
    (λ n ts l. number_back n ts l)
    (one_reads number_of (λ n t. number_of t ≡ Some n) (λ n t e. e) (λ n t e. e) (pos 1) (word (codes "true")) refl)

-- ---- cases

pub case_tells : IsTeller case_at SpellsCase Anything
unfolding case_at
case_tells = made_whole (λ read. record { kind = read.0; number = read.1.0; to = read.1.1 })
    (λ c. (c.kind, (c.number, c.to))) SpellsCase (λ c. refl)
    (both (silent_tells scalar_types) (both (silent_tells number_reads) (skip (sign_tells 44) target_tells)))

-- a case that begins so
case_begun : (t : Lexeme) → begins_scalar t ≡ true
    → Begins (λ (told : Case × List Mention) ts. SpellsCase told.0 told.1 ts) (t ∷ [])
case_begun t passed =
    let kind = scalar_begun t passed in
    let number = number_reads in
    let target = target_tells.reader in
    let behind : List Lexeme = sign 44 ∷ target.sentence in
    record {
      whole = (record { kind = kind.0; number = number.some; to = target.some.0 }, target.some.1);
      others = number.sentence ++ behind;
      sentence = (
        [],
        target.some.1,
        refl,
        (
          t ∷ [],
          number.sentence ++ behind,
          refl,
          (refl, kind.1),
          (
            [],
            target.some.1,
            refl,
            (
              number.sentence,
              behind,
              refl,
              (refl, number.sample),
              ([], target.some.1, refl, (sign 44 ∷ [], target.sentence, refl, (refl, refl), target.sample)),
            ),
          ),
        ),
      );
    }

abbrev pub NoScalar : Lexeme → Type 0
NoScalar t = begins_scalar t ≡ false

pub cases_tell : IsTeller cases_at (InOrder SpellsCase) (λ cases. NoScalar)
unfolding cases_at
cases_tell = gathered_tells (InOrder SpellsCase) (in_order SpellsCase) (from_order SpellsCase)
    (of_stop (λ told. NoScalar) there back
    (repeated begins_scalar (λ t. Unit {0}) case_tells.reader
    (λ told ts l. ap (begins begins_scalar) l.3.2
    ∙ begins_still begins_scalar l.3.0 l.3.1 (scalar_begins told.0.kind l.3.0 l.3.3.1))
    (λ t passed. tt)
    (λ t ts passed e. refused_there case_tells.reader [] ts t e (case_begun t passed))))
  where
    there : (ps : List (Case × List Mention)) (t : Lexeme) → Behind begins_scalar (λ t. Unit {0}) ps t → NoScalar t
    there [] t stop = stop
    there (p ∷ ps) t stop = stop.0

    back : (ps : List (Case × List Mention)) (t : Lexeme) → NoScalar t → Behind begins_scalar (λ t. Unit {0}) ps t
    back [] t stop = stop
    back (p ∷ ps) t stop = (stop, tt)

-- ---- switches

abbrev pub SpellsSwitch : TypedOperand × (BlockId × List Case) → Mentioning
SpellsSwitch read = SpellsTyped read.0 ⊙ (the_comma ⊙ (SpellsTarget read.1.0.0
    ⊙ (the_sign 91 ⊙ (InOrder SpellsCase read.1.1 ⊙ the_sign 93))))

abbrev pub make_switch : TypedOperand × (BlockId × List Case) → Operation
make_switch read = plain (Switch read.0.kind read.0.value read.1.0 read.1.1)

pub switch_tells : IsTeller switch_at (IsMade make_switch SpellsSwitch) Anything
unfolding switch_at
switch_tells = made_told make_switch (λ t. Unit {0})
    (both typed_tells (skip (sign_tells 44) (both target_tells (skip (sign_tells 91)
    (kept_told cases_tell (sign_tells 93) (λ cases u ms taken rest l stops. rw l.1 refl))))))

-- ---- `unreachable`

pub unreachable_tells : IsTeller unreachable_at
    (λ operation. silent (λ ts. (operation ≡ plain Unreachable) × (ts ≡ []))) Anything
unfolding unreachable_at
unreachable_tells = silent_tells (pure_reads (plain Unreachable))
