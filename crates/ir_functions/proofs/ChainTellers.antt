-- Operations with their attachments are read, and calls that are dropped.
use Rattle.std.proofs.Common.{◌≡◌, suc, Bool, true, false, List, [], ◌∷◌, ◌++◌, length, Option, Some, None, Err, ◌⊎◌, inl, inr, refl, sym, ap, subst, ◌∙◌, codes}
use Rattle.std.proofs.lemmas.List.{append-nil}
use Rattle.ir_model.specs.declared.types.IrType.TheVariants.{Void}
use Rattle.ir_model.specs.declared.op.Op.TheVariants.{Call}
use Rattle.ir_text.specs.Bytes.{is_letter, begins_word}
use Rattle.ir_text.specs.Names.{is_word}
use Rattle.ir_text.specs.Tokens.{Lexeme}
use Rattle.ir_text.specs.Listed.{word, sign, global}
use Rattle.ir_text.specs.Language.{Language, ◌·◌}
use Rattle.ir_text.specs.Language.Many.{none}
use Rattle.ir_text.specs.Mentions.{Mention, Mentioning}
use Rattle.ir_text.specs.PassedOn.{passed_text}
use Rattle.ir_grammar.specs.Operations.{dropped_word, SpellsOp}
use Rattle.ir_parts.specs.declared.ending.Ending.{Ending}
use Rattle.ir_parts.specs.Reading.{begins}
use Rattle.ir_parts.proofs.Readers.{chosen}
use Rattle.ir_parts.proofs.NoneGoesOn.{Begins, refused_there}
use Rattle.ir_body.specs.declared.operation.Operation.{Operation}
use Rattle.ir_body.specs.Opcodes.{begins_call}
use Rattle.ir_body.proofs.Tellers.{IsTeller, made_tells}
use Rattle.ir_body.proofs.OpTellers.{op_tells}
use Rattle.ir_functions.specs.Silent.{is_record}
use Rattle.ir_functions.specs.Calls.{call_at}
use Rattle.ir_functions.specs.Lines.{is_local, plain_at, operation_at}
use Rattle.ir_functions.proofs.LineStarts.{EndsLines, BeginsOp, op_begins, call_words, call_ends, call_no_record, call_no_local, word_ends, word_no_record, word_no_local}
use Rattle.ir_functions.proofs.LineFacts.{StopsTail, SpellsWhole, PlainOperation, ReadsCalls}

-- ---- what stands first

-- The tokens begin with one that ends every line, and is neither a record nor a name.
pub record BeginsChain (ts : List Lexeme) : Type 0 where
  pub first : Lexeme
  pub others : List Lexeme
  pub parts : ts ≡ first ∷ others
  pub ends : EndsLines first
  pub no_record : is_record first ≡ false
  pub no_local : is_local first ≡ false

plain_begins : (has_result : Bool) (operation : Operation) (ms : List Mention) (ts : List Lexeme)
    → PlainOperation has_result operation ms ts → BeginsOp ts
plain_begins has_result operation ms ts l =
    let whole = l.2 in
    let b = op_begins operation.op operation.words whole.0 whole.3.0 l.0 whole.3.3 in
    record {
      text = b.text;
      others = b.others ++ whole.3.1;
      parts = whole.3.2 ∙ ap (λ (us : List Lexeme). us ++ whole.3.1) b.parts;
      is = b.is;
    }

op_chain : (ts : List Lexeme) → BeginsOp ts → BeginsChain ts
op_chain ts b = record {
  first = word b.text;
  others = b.others;
  parts = b.parts;
  ends = word_ends b.text b.is.not_passed;
  no_record = word_no_record b.text;
  no_local = word_no_local b.text;
}

call_chain : (ts : List Lexeme) → begins begins_call ts ≡ true → BeginsChain ts
call_chain [] e = absurd cc
call_chain (t ∷ ts) e = record {
  first = t;
  others = ts;
  parts = refl;
  ends = call_ends t e;
  no_record = call_no_record t e;
  no_local = call_no_local t e;
}

-- ---- a call that begins with each of the words

-- the call of `@a` that returns nothing, behind these tokens
sample_call : List Lexeme → Operation
sample_call before = record {
  op = Call Void (codes "a") [];
  words = passed_text before ∷ (passed_text [] ∷ (passed_text [] ∷ []));
}

sample_tokens : List Lexeme
sample_tokens = word (codes "call") ∷ (word (codes "void") ∷ (global (codes "a") ∷ (sign 40 ∷ (sign 41 ∷ []))))

sample_spelled : (before : List Lexeme) → (dropped_word (codes "tail") · dropped_word (codes "notail")) before
    → SpellsWhole (sample_call before) [] (before ++ sample_tokens)
unfolding sample_call sample_tokens is_word begins_word is_letter
sample_spelled before l = (
  [],
  [],
  refl,
  (before ++ sample_tokens, [], sym (append-nil (before ++ sample_tokens)), spelled, (refl, none)),
)
  where
    spelled : SpellsOp (sample_call before).op (sample_call before).words [] (before ++ sample_tokens)
    spelled = (
      passed_text before,
      passed_text [],
      passed_text [],
      [],
      refl,
      refl,
      inl refl,
      (
        [],
        [],
        refl,
        (
          before,
          sample_tokens,
          refl,
          (refl, (refl, l)),
          (
            [],
            [],
            refl,
            (
              word (codes "call") ∷ [],
              _,
              refl,
              (refl, refl),
              (
                [],
                [],
                refl,
                (
                  [],
                  _,
                  refl,
                  (refl, (([], refl), refl)),
                  (
                    [],
                    [],
                    refl,
                    (
                      word (codes "void") ∷ [],
                      _,
                      refl,
                      (refl, (tt, refl)),
                      (
                        [],
                        [],
                        refl,
                        (
                          global (codes "a") ∷ [],
                          _,
                          refl,
                          (refl, (global (codes "a"), refl, (refl, codes "a", refl, inl (refl, refl)))),
                          (
                            [],
                            [],
                            refl,
                            (
                              sign 40 ∷ [],
                              _,
                              refl,
                              (refl, refl),
                              (
                                [],
                                [],
                                refl,
                                (
                                  [],
                                  _,
                                  refl,
                                  (refl, refl),
                                  (
                                    [],
                                    [],
                                    refl,
                                    (sign 41 ∷ [], [], refl, (refl, refl), (refl, (([], refl), refl))),
                                  ),
                                ),
                              ),
                            ),
                          ),
                        ),
                      ),
                    ),
                  ),
                ),
              ),
            ),
          ),
        ),
      ),
    )

-- ---- the reading

module _ {Chain : Bool → Option Operation × Option Ending → List Mention → List Lexeme → Type 0}
    (calls : ReadsCalls Chain) where
  -- an operation other than a call, behind which no run stands
  abbrev SpellsPlain : Bool → Option Operation × Option Ending → Mentioning
  SpellsPlain has_result p ms ts = (operation : Operation) × (p ≡ (Some operation, None))
      × PlainOperation has_result operation ms ts

  abbrev IsChain : Bool → (Option Operation × Option Ending) × List Mention → Language
  IsChain has_result told ts = Chain has_result told.0 told.1 ts

  -- a call that begins with these tokens
  call_behind : (has_result : Bool) (t : Lexeme) (others before : List Lexeme)
      → (dropped_word (codes "tail") · dropped_word (codes "notail")) before
      → before ++ sample_tokens ≡ t ∷ others → Begins (IsChain has_result) (t ∷ [])
  unfolding sample_call
  call_behind has_result t others before l parts =
      let chain = calls.call_back has_result (sample_call before) [] (before ++ sample_tokens) tt
      (sample_spelled before l) in
      record {
        whole = ((Some (sample_call before), chain.0), []);
        others = others;
        sentence = subst (λ (ts : List Lexeme). Chain has_result (Some (sample_call before), chain.0) [] ts) parts
            chain.1;
      }

  begins_with : (has_result : Bool) (t : Lexeme) → begins_call t ≡ true → Begins (IsChain has_result) (t ∷ [])
  unfolding sample_tokens
  begins_with has_result t e = elim (call_words t e) [
    | inl is ↦
        call_behind has_result t sample_tokens (word (codes "tail") ∷ [])
        (word (codes "tail") ∷ [], [], refl, inl refl, inr refl)
        (ap (λ (t : Lexeme). t ∷ sample_tokens) (sym is))
    | inr (inl is) ↦
        call_behind has_result t sample_tokens (word (codes "notail") ∷ [])
        ([], word (codes "notail") ∷ [], refl, inr refl, inl refl)
        (ap (λ (t : Lexeme). t ∷ sample_tokens) (sym is))
    | inr (inr is) ↦
        call_behind has_result t (word (codes "void") ∷ (global (codes "a") ∷ (sign 40 ∷ (sign 41 ∷ [])))) []
        ([], [], refl, inr refl, inr refl)
        (ap (λ (t : Lexeme). t ∷ (word (codes "void") ∷ (global (codes "a") ∷ (sign 40 ∷ (sign 41 ∷ []))))) (sym is))
  ]

  call_begun : (has_result : Bool) (t : Lexeme) (ts : List Lexeme) → begins_call t ≡ true
      → call_at has_result (t ∷ ts) ≡ Err (suc (length ts)) → ⊥
  call_begun has_result t ts passed e =
      refused_there (calls.tells has_result).reader [] ts t e (begins_with has_result t passed)

  -- an operation or what is dropped, with its attachments
  abbrev pub SpellsChain : Bool → Option Operation × Option Ending → Mentioning
  SpellsChain has_result p ms ts = Chain has_result p ms ts ⊎ SpellsPlain has_result p ms ts

  plain_tells : (has_result : Bool) → IsTeller (plain_at has_result) (SpellsPlain has_result) (λ p. StopsTail p.1)
  unfolding plain_at
  plain_tells has_result = made_tells (λ operation. (Some operation, None)) (λ p. StopsTail p.1)
      (λ operation t stop. (stop, tt)) (λ operation t stop. stop.0) (op_tells has_result)

  no_call : (has_result : Bool) (p : Option Operation × Option Ending) (ms : List Mention) (taken rest : List Lexeme)
      → SpellsPlain has_result p ms taken → begins begins_call (taken ++ rest) ≡ false
  no_call has_result p ms taken rest l =
      let b = plain_begins has_result l.0 ms taken l.2 in
      ap (λ (ts : List Lexeme). begins begins_call (ts ++ rest)) b.parts ∙ b.is.no_call

  pub operation_tells : (has_result : Bool)
      → IsTeller (operation_at has_result) (SpellsChain has_result) (λ p. StopsTail p.1)
  unfolding operation_at
  operation_tells has_result = record {
    reader = chosen begins_call (calls.tells has_result).reader (plain_tells has_result).reader
        (λ told ts l. calls.starts has_result told.0 told.1 ts l)
        (λ told taken rest l stops. no_call has_result told.0 told.1 taken rest l)
        (call_begun has_result);
  }

  -- what it begins with
  pub chain_begins : (has_result : Bool) (p : Option Operation × Option Ending) (ms : List Mention) (ts : List Lexeme)
      → SpellsChain has_result p ms ts → BeginsChain ts
  chain_begins has_result p ms ts (inl l) = call_chain ts (calls.starts has_result p ms ts l)
  chain_begins has_result p ms ts (inr l) = op_chain ts (plain_begins has_result l.0 ms ts l.2)
