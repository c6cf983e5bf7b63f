-- What stands behind the type of an argument: a run and an operand; where the operand is a word, or a numeral that
-- belongs to the word before it, it is read as the end of the run.
use Rattle.std.proofs.Common.{◌≡◌, ℕ, ◌-◌, suc, Bool, true, false, ◌&&◌, if◌then◌else◌, List, [], ◌∷◌, ◌++◌, length, take, slice_get, Option, Some, None, Result, Ok, Err, inl, refl, sym, ap, subst, ◌∙◌, append_assoc, arith}
use Rattle.std.specs.Option.{option_and_then}
use Rattle.std.proofs.lemmas.List.{append-nil, length-append}
use Rattle.std.proofs.Math.Seq.{take-append_seam}
use Rattle.ir_model.specs.declared.types.IrType.{IrType}
use Rattle.ir_model.specs.declared.op.Operand.{Operand}
use Rattle.ir_text.specs.declared.token.TokenKind.TheVariants as kind
use Rattle.ir_text.specs.Tokens.{Lexeme}
use Rattle.ir_text.specs.Listed.{word}
use Rattle.ir_text.specs.Mentions.{Mention}
use Rattle.ir_text.specs.PassedOn.{passed_text, ArePieces}
use Rattle.ir_parts.specs.declared.ending.Ending.{Ending}
use Rattle.ir_parts.specs.declared.ending.Ending.TheVariants.{Empty, Word, Placing, Placed}
use Rattle.ir_parts.specs.declared.ending.Run.{Run}
use Rattle.ir_parts.specs.Reading.{Read, go_on, given, one_at, begins, taking, is_word_kind}
use Rattle.ir_parts.specs.WordsReading.{is_numeral, run_at}
use Rattle.ir_parts.specs.Runs.{ending_of, ending_of_last, run_of, goes_on, SpellsRun}
use Rattle.ir_parts.proofs.Readers.{StopsAt, IsReader, chosen_first, chosen_other}
use Rattle.ir_parts.proofs.SingleTokens.{word_kind}
use Rattle.ir_parts.proofs.PieceTokens.{passed_there}
use Rattle.ir_parts.proofs.TypeReaders.{numeral_kind}
use Rattle.ir_parts.proofs.RunReader.{run_reads}
use Rattle.ir_parts.proofs.TakingReader.{taking_reads}
use Rattle.ir_body.specs.Operands.{operand_of, operand_at}
use Rattle.ir_functions.specs.declared.arguments.Argument.{Argument}
use Rattle.ir_functions.specs.Arguments.{is_outer, may_be_operand, inner_operand, outer_at, argument_within, inner_at, argument_behind_at}
use Rattle.ir_functions.proofs.LastPieces.{one_more, ends_as_last, WithoutLast, without_last, placed_ends, ends_in_word, ends_placed, ends_placing}
use Rattle.ir_functions.proofs.OperandTokens.{inner_word}

-- ---- the language

-- a numeral may belong to what ends so
abbrev pub takes_numeral : Ending → Bool
takes_numeral Placing = true
takes_numeral _ = false

-- how the run ends of which the operand is the last token, where what stands before it ends so
abbrev pub inner_of : Ending → Lexeme → Option Ending
inner_of ending t = if is_word_kind t.kind then Some Word
    else (if takes_numeral ending && is_numeral t then Some Placed else None)

abbrev pub argument_of : IrType → List Lexeme → Operand → Option Ending → Argument
argument_of kind us value inner = record {
  typed = record { kind = kind; value = value };
  words = passed_text us;
  inner = inner;
}

-- What stands behind the type of an argument: pieces of a run, and a token that is the operand.
pub record SpellsBehind (kind : IrType) (read : Argument × List Mention) (ts : List Lexeme) : Type 0 where
  pub pieces : List (List Lexeme)
  pub words : List Lexeme
  pub last : Lexeme
  pub parts : ts ≡ words ++ last ∷ []
  pub are_pieces : ArePieces pieces words
  pub value : Operand × List Mention
  pub operand : operand_of last ≡ Some value
  pub made : read ≡ (argument_of kind words value.0 (inner_of (ending_of_last pieces) last), value.1)

-- A token doesn't go on with an argument whose run ends so: it doesn't go on with the run, and is no operand behind it.
abbrev pub StopsInner : Option Ending → Lexeme → Type 0
StopsInner None t = Unit {0}
StopsInner (Some ending) t = (goes_on ending t ≡ false) × (is_outer t ≡ false)

-- ---- the run

-- a run and its tokens
abbrev pub with_tokens_at : Read (Run × List Lexeme)
with_tokens_at = taking run_at

-- the tokens of the pieces
abbrev pub SpellsPieces : Run × List Lexeme → List Lexeme → Type 0
SpellsPieces p us = SpellsRun p.0 us × (p.1 ≡ us)

unfoldable pub StopsEnding : Ending → Lexeme → Type 0
StopsEnding ending t = goes_on ending t ≡ false

pub with_tokens_read : IsReader with_tokens_at SpellsPieces (λ p. StopsEnding p.0.ending)
unfolding StopsEnding
with_tokens_read = taking_reads run_reads

pub run_is_read : (pieces : List (List Lexeme)) (us rest : List Lexeme) → ArePieces pieces us
    → StopsAt (StopsEnding (ending_of_last pieces)) rest
    → with_tokens_at (us ++ rest) ≡ Ok ((run_of pieces, us), rest)
run_is_read pieces us rest there stops =
    with_tokens_read.reads (run_of pieces, us) us rest ((pieces, there, refl), refl) stops

-- ---- the operand behind it, or its last token

-- where an operand stands behind the run
pub outer_read : (kind : IrType) (read : Run × List Lexeme) (t : Lexeme) (rest : List Lexeme)
    (value : Operand × List Mention) → is_outer t ≡ true → operand_of t ≡ Some value
    → argument_behind_at kind read (t ∷ rest) ≡ Ok ((argument_of kind read.1 value.0 None, value.1), rest)
unfolding argument_behind_at outer_at operand_at one_at
outer_read kind read t rest value outer e =
    chosen_first is_outer (outer_at kind read.1) (inner_at kind read.0.ending read.1) (t ∷ rest) outer
    ∙ (ap (made_of t rest) e
    ∙ ap (λ (ms : List Mention). Ok ((argument_of kind read.1 value.0 None, ms), rest)) (append-nil value.1))
  where
    made_of : Lexeme → List Lexeme → Option (Operand × List Mention)
        → Result ((Argument × List Mention) × List Lexeme) ℕ
    made_of t rest found = go_on (given found rest (suc (length rest))) (λ read_value others.
        Ok ((argument_of kind read.1 read_value.0 None, read_value.1 ++ []), others))

-- where the last token of the run is the operand, and where it is none
pub inner_read : (kind : IrType) (read : Run × List Lexeme) (rest : List Lexeme) (value : Operand × List Mention)
    → begins is_outer rest ≡ false → inner_operand read.0.ending read.1 ≡ Some value
    → argument_behind_at kind read rest ≡ Ok ((argument_within kind read.0.ending read.1 value.0, value.1), rest)
unfolding argument_behind_at inner_at
inner_read kind read rest value outer e =
    chosen_other is_outer (outer_at kind read.1) (inner_at kind read.0.ending read.1) rest outer ∙ rw e refl

pub inner_refused : (kind : IrType) (read : Run × List Lexeme) (rest : List Lexeme)
    → begins is_outer rest ≡ false → inner_operand read.0.ending read.1 ≡ None
    → argument_behind_at kind read rest ≡ Err (length rest)
unfolding argument_behind_at inner_at
inner_refused kind read rest outer e =
    chosen_other is_outer (outer_at kind read.1) (inner_at kind read.0.ending read.1) rest outer ∙ rw e refl

-- the last of some tokens, and those before it
pub before_last : (us : List Lexeme) (t : Lexeme) → take (length (us ++ t ∷ []) - 1) (us ++ t ∷ []) ≡ us
before_last us t =
    let so_many : length (us ++ t ∷ []) - 1 ≡ length us = omega (arith, length-append us (t ∷ [])) in
    ap (λ (n : ℕ). take n (us ++ t ∷ [])) so_many ∙ take-append_seam us (t ∷ [])

last_at : (us : List Lexeme) (t : Lexeme) → slice_get (us ++ t ∷ []) (length us) ≡ Some t
last_at [] t = refl
last_at (u ∷ us) t = last_at us t

last_token : (us : List Lexeme) (t : Lexeme) → slice_get (us ++ t ∷ []) (length (us ++ t ∷ []) - 1) ≡ Some t
last_token us t =
    let so_many : length (us ++ t ∷ []) - 1 ≡ length us = omega (arith, length-append us (t ∷ [])) in
    ap (slice_get (us ++ t ∷ [])) so_many ∙ last_at us t

pub inner_of_last : (ending : Ending) (us : List Lexeme) (t : Lexeme) → may_be_operand ending ≡ true
    → inner_operand ending (us ++ t ∷ []) ≡ operand_of t
inner_of_last ending us t may =
    rw may (ap (λ (found : Option Lexeme). option_and_then operand_of found) (last_token us t))

pub argument_within_is : (kind : IrType) (ending : Ending) (us : List Lexeme) (t : Lexeme) (value : Operand)
    → argument_within kind ending (us ++ t ∷ []) value ≡ argument_of kind us value (Some ending)
argument_within_is kind ending us t value =
    ap (λ (words : List Lexeme). argument_of kind words value (Some ending)) (before_last us t)

-- ---- the last token of a run, as an operand

-- the run without its last token
pub record EndsInOperand (ending : Ending) (us : List Lexeme) : Type 0 where
  pub pieces : List (List Lexeme)
  pub before : List Lexeme
  pub last : Lexeme
  pub parts : us ≡ before ++ last ∷ []
  pub are_pieces : ArePieces pieces before
  pub inner : inner_of (ending_of_last pieces) last ≡ Some ending

inner_word_is : (ending : Ending) (t : Lexeme) → t.kind ≡ kind.Word → inner_of ending t ≡ Some Word
inner_word_is ending t is = rw is refl

inner_numeral_is : (ending : Ending) (t : Lexeme) → ending ≡ Placing → t.kind ≡ kind.Numeral
    → inner_of ending t ≡ Some Placed
inner_numeral_is ending t placing is = rw (placing, is) refl

without_word : (pieces : List (List Lexeme)) (us : List Lexeme) → WithoutLast pieces us → ending_of_last pieces ≡ Word
    → EndsInOperand Word us
without_word pieces us w e =
    let ends : ending_of w.piece ≡ Word = sym (ap ending_of_last w.all ∙ ends_as_last w.others w.piece) ∙ e in
    let last = ends_in_word w.piece w.is_piece ends in
    record {
      pieces = w.others;
      before = w.before;
      last = last.last;
      parts = w.parts ∙ ap (λ (piece : List Lexeme). w.before ++ piece) last.parts;
      are_pieces = w.are_pieces;
      inner = inner_word_is (ending_of_last w.others) last.last last.is_word;
    }

without_numeral : (pieces : List (List Lexeme)) (us : List Lexeme) → WithoutLast pieces us
    → ending_of_last pieces ≡ Placed → EndsInOperand Placed us
without_numeral pieces us w e =
    let ends : ending_of w.piece ≡ Placed = sym (ap ending_of_last w.all ∙ ends_as_last w.others w.piece) ∙ e in
    let last = ends_placed w.piece w.is_piece ends in
    let placing = word last.name ∷ [] in
    record {
      pieces = w.others ++ placing ∷ [];
      before = w.before ++ placing;
      last = last.last;
      parts = w.parts ∙ (ap (λ (piece : List Lexeme). w.before ++ piece) last.parts
          ∙ sym (append_assoc w.before placing (last.last ∷ [])));
      are_pieces = one_more w.others w.before placing w.are_pieces last.placing.alone;
      inner = inner_numeral_is (ending_of_last (w.others ++ placing ∷ [])) last.last
          (ends_as_last w.others placing ∙ last.placing.ends) last.is_numeral;
    }

pub ends_in_operand : (pieces : List (List Lexeme)) (us : List Lexeme) (ending : Ending) → ArePieces pieces us
    → ending_of_last pieces ≡ ending → may_be_operand ending ≡ true → EndsInOperand ending us
ends_in_operand [] us ending there e may = absurd (none ending e may)
  where
    none : (ending : Ending) → Empty ≡ ending → may_be_operand ending ≡ true → ⊥
    none Word e may = cc
    none Placed e may = cc
    none _ e may = cc
ends_in_operand (first ∷ pieces) us ending there e may =
    of_ending ending e may (without_last first pieces us there)
  where
    of_ending : (ending : Ending) → ending_of_last (first ∷ pieces) ≡ ending → may_be_operand ending ≡ true
        → WithoutLast (first ∷ pieces) us → EndsInOperand ending us
    of_ending Word e may w = without_word (first ∷ pieces) us w e
    of_ending Placed e may w = without_numeral (first ∷ pieces) us w e
    of_ending _ e may w = absurd cc

-- the run with the operand at its end
pub record WithOperand (ending : Ending) (us : List Lexeme) : Type 0 where
  pub pieces : List (List Lexeme)
  pub are_pieces : ArePieces pieces us
  pub ends : ending_of_last pieces ≡ ending
  pub may : may_be_operand ending ≡ true

with_word : (pieces : List (List Lexeme)) (us : List Lexeme) (t : Lexeme) (value : Operand × List Mention)
    → ArePieces pieces us → operand_of t ≡ Some value → t.kind ≡ kind.Word → WithOperand Word (us ++ t ∷ [])
with_word pieces us t value there e is =
    let inner = inner_word t value is e in
    record {
      pieces = pieces ++ (t ∷ []) ∷ [];
      are_pieces = one_more pieces us (t ∷ []) there (inl (t, refl, passed_there t inner.passed));
      ends = ends_as_last pieces (t ∷ []) ∙ rw (is, inner.places_none) refl;
      may = refl;
    }

with_numeral : (pieces : List (List Lexeme)) (us : List Lexeme) (t : Lexeme) → WithoutLast pieces us
    → ending_of_last pieces ≡ Placing → t.kind ≡ kind.Numeral → WithOperand Placed (us ++ t ∷ [])
with_numeral pieces us t w e is =
    let ends : ending_of w.piece ≡ Placing = sym (ap ending_of_last w.all ∙ ends_as_last w.others w.piece) ∙ e in
    let placing = ends_placing w.piece w.is_piece ends in
    let piece = word placing.name ∷ t ∷ [] in
    let parts : us ++ t ∷ [] ≡ w.before ++ piece = ap (λ (us : List Lexeme). us ++ t ∷ []) w.parts
    ∙ (append_assoc w.before w.piece (t ∷ [])
    ∙ ap (λ (piece : List Lexeme). w.before ++ (piece ++ t ∷ [])) placing.parts) in
    record {
      pieces = w.others ++ piece ∷ [];
      are_pieces = subst (λ (us : List Lexeme). ArePieces (w.others ++ piece ∷ []) us) (sym parts)
          (one_more w.others w.before piece w.are_pieces (placing.placing.with_numeral t is));
      ends = ends_as_last w.others piece ∙ placed_ends placing.name t is;
      may = refl;
    }

takes_is_placing : (ending : Ending) → takes_numeral ending ≡ true → ending ≡ Placing
takes_is_placing Placing e = refl
takes_is_placing _ e = absurd cc

with_placed : (pieces : List (List Lexeme)) (us : List Lexeme) (t : Lexeme) → ArePieces pieces us
    → ending_of_last pieces ≡ Placing → t.kind ≡ kind.Numeral → WithOperand Placed (us ++ t ∷ [])
with_placed [] us t there e is = absurd cc
with_placed (first ∷ pieces) us t there e is =
    with_numeral (first ∷ pieces) us t (without_last first pieces us there) e is

pub with_operand : (pieces : List (List Lexeme)) (us : List Lexeme) (t : Lexeme) (value : Operand × List Mention)
    (ending : Ending) → ArePieces pieces us → operand_of t ≡ Some value
    → inner_of (ending_of_last pieces) t ≡ Some ending → WithOperand ending (us ++ t ∷ [])
with_operand pieces us t value ending there e inner =
    of_tests (is_word_kind t.kind) (takes_numeral (ending_of_last pieces)) (is_numeral t) refl refl refl inner
  where
    of_tests : (w p n : Bool) → is_word_kind t.kind ≡ w → takes_numeral (ending_of_last pieces) ≡ p → is_numeral t ≡ n
        → (if w then Some Word else (if p && n then Some Placed else None)) ≡ Some ending
        → WithOperand ending (us ++ t ∷ [])
    of_tests true p n is_word places number e2 =
        let same : Word ≡ ending = cc in
        subst (λ (ending : Ending). WithOperand ending (us ++ t ∷ [])) same
        (with_word pieces us t value there e (word_kind t.kind is_word))
    of_tests false true true is_word places number e2 =
        let same : Placed ≡ ending = cc in
        subst (λ (ending : Ending). WithOperand ending (us ++ t ∷ [])) same
        (with_placed pieces us t there (takes_is_placing (ending_of_last pieces) places) (numeral_kind t.kind number))
    of_tests false true false is_word places number e2 = absurd cc
    of_tests false false n is_word places number e2 = absurd cc
