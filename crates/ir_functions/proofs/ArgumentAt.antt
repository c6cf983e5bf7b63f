-- Arguments at a place of the tokens: the run behind the type with its tokens, and its last token.
use Rattle.std.proofs.Common.{◌≡◌, ℕ, ◌+◌, ◌-◌, ◌<◌, ◌≤◌, zero, suc, Bool, true, false, List, [], ◌∷◌, ◌++◌, length, take, drop, Option, Some, None, Ok, Err, refl, sym, ap, ◌∙◌, arith}
use Rattle.ir_model.specs.declared.types.IrType.{IrType}
use Rattle.ir_model.specs.declared.op.Operand.{Operand}
use Rattle.ir_text.specs.Tokens.{Lexeme}
use Rattle.ir_text.specs.Mentions.{Mention}
use Rattle.ir_text.specs.PassedOn.{passed_text}
use Rattle.ir_lex.specs.Tokenized.{Tokenized}
use Rattle.ir_parts.specs.declared.ending.Ending.{Ending}
use Rattle.ir_parts.specs.declared.ending.Run.{Run}
use Rattle.ir_parts.specs.declared.fault.ItemFault.{ItemFault}
use Rattle.ir_parts.specs.declared.fault.ItemFault.TheVariants.{CannotGoOn, OutOfMemory}
use Rattle.ir_parts.specs.Reading.{go_on, given, one_at, left_from, taking, Reads, ReadsAs}
use Rattle.ir_parts.specs.Places.{mentions_at}
use Rattle.ir_parts.proofs.Readers.{same_read}
use Rattle.ir_parts.specs.WordsReading.{run_at}
use Rattle.ir_parts.proofs.Places.{length_left, left_behind}
use Rattle.ir_body.specs.Operands.{operand_of, operand_at}
use Rattle.ir_functions.specs.declared.arguments.Argument.{Argument}
use Rattle.ir_functions.specs.Arguments.{may_be_operand, inner_operand, argument_behind_at, behind_type_at}
use Rattle.ir_functions.specs.ArgumentViews.{bare_argument, argument_sites}
use Rattle.ir_functions.proofs.ArgumentTellers.{told_behind}
use Rattle.ir_functions.proofs.ArgumentRuns.{inner_of_last, before_last}

-- what was taken from a place to another
pub run_taken : (t : Tokenized) (from end : ℕ) (run : Run) → from ≤ end → end ≤ length t.tokens
    → run_at (left_from t from) ≡ Ok (run, left_from t end)
    → taking run_at (left_from t from) ≡ Ok ((run, take (end - from) (left_from t from)), left_from t end)
unfolding taking
run_taken t from end run forth within read =
    let so_many : length (left_from t from) - length (left_from t end) ≡ end - from =
    omega (arith, length_left t from, length_left t end) in
    rw read (ap (λ (n : ℕ). Ok ((run, take n (left_from t from)), left_from t end)) so_many)

-- what stands behind a type
pub behind_type_is : (t : Tokenized) (from end : ℕ) (run : Run) (kind : IrType) → from ≤ end → end ≤ length t.tokens
    → run_at (left_from t from) ≡ Ok (run, left_from t end)
    → argument_behind_at kind (run, take (end - from) (left_from t from)) (left_from t end)
    ≡ behind_type_at kind (left_from t from)
behind_type_is t from end run kind forth within read =
    sym (told_behind kind (taking run_at (left_from t from))
    ∙ ap (λ r. go_on r (argument_behind_at kind)) (run_taken t from end run forth within read))

pub behind_type_refused : (t : Tokenized) (from : ℕ) (fault : ItemFault) (kind : IrType)
    → Reads {X = Run} t (Err fault) (run_at (left_from t from))
    → ReadsAs {X = Argument} (λ arg. (bare_argument arg, mentions_at t (argument_sites arg))) t (Err fault)
    (behind_type_at kind (left_from t from))
unfolding taking
behind_type_refused t from OutOfMemory kind e = tt
behind_type_refused t from (CannotGoOn at) kind e = (rw e.0 refl, e.1)

-- ---- the last token

-- the token at a place
first_left : (t : Tokenized) (at : ℕ) → at < length t.tokens
    → (first : Lexeme) × (left_from t at ≡ first ∷ left_from t (at + 1))
first_left t at within = of_list (left_from t at) refl
  where
    of_list : (ts : List Lexeme) → left_from t at ≡ ts
        → (first : Lexeme) × (left_from t at ≡ first ∷ left_from t (at + 1))
    of_list [] e = absurd
        (let none : length (left_from t at) ≡ 0 = ap length e in omega (arith, length_left t at, none))
    of_list (first ∷ rest) e = (
      first,
      e ∙ ap (λ (rest : List Lexeme). first ∷ rest)
          (ap (λ (ts : List Lexeme). drop 1 ts) (sym e) ∙ left_behind t at),
    )

-- The last of some tokens, and those before it.
record LastOf (t : Tokenized) (from n end : ℕ) : Type 0 where
  last : Lexeme
  here : left_from t end ≡ last ∷ left_from t (end + 1)
  parts : take (suc n) (left_from t from) ≡ take n (left_from t from) ++ last ∷ []

last_of : (t : Tokenized) (n from end : ℕ) → end ≡ from + n → end < length t.tokens → LastOf t from n end
last_of t zero from end is within =
    let first = first_left t end within in
    let same : end ≡ from = omega (arith, is) in
    record {
      last = first.0;
      here = first.1;
      parts = ap (take 1) (ap (left_from t) (sym same) ∙ first.1);
    }
last_of t (suc n) from end is within =
    let first = first_left t from (omega (arith, is, within)) in
    let others = last_of t n (from + 1) end (omega (arith, is)) within in
    record {
      last = others.last;
      here = others.here;
      parts = ap (take (suc (suc n))) first.1
          ∙ (ap (λ (ts : List Lexeme). first.0 ∷ ts) others.parts
          ∙ ap (λ (ts : List Lexeme). take (suc n) ts ++ others.last ∷ []) (sym first.1));
    }

-- the last token of a run
pub record RunEnd (t : Tokenized) (from end : ℕ) : Type 0 where
  pub last : Lexeme
  pub here : left_from t (end - 1) ≡ last ∷ left_from t end
  pub parts : take (end - from) (left_from t from) ≡ take (end - 1 - from) (left_from t from) ++ last ∷ []

pub run_end : (t : Tokenized) (from end : ℕ) → from < end → end ≤ length t.tokens → RunEnd t from end
run_end t from end forth within =
    let behind : end - 1 + 1 ≡ end = omega (arith, forth) in
    let so_many : end - from ≡ suc (end - 1 - from) = omega (arith, forth) in
    let last = last_of t (end - 1 - from) from (end - 1) (omega (arith, forth)) (omega (arith, forth, within)) in
    record {
      last = last.last;
      here = last.here ∙ ap (λ (n : ℕ). last.last ∷ left_from t n) behind;
      parts = ap (λ (n : ℕ). take n (left_from t from)) so_many ∙ last.parts;
    }

-- the text before the last token
pub words_before : (t : Tokenized) (from end : ℕ) (text : List ℕ) → from < end → end ≤ length t.tokens
    → text ≡ passed_text (take (end - 1 - from) (left_from t from))
    → text ≡ passed_text (take (length (take (end - from) (left_from t from)) - 1)
    (take (end - from) (left_from t from)))
words_before t from end text forth within e =
    let run = run_end t from end forth within in
    let before = take (end - 1 - from) (left_from t from) in
    e ∙ (ap passed_text (sym (before_last before run.last))
    ∙ ap (λ (ts : List Lexeme). passed_text (take (length ts - 1) ts)) (sym run.parts))

-- ---- the operand that it is

given_first : {A : Type 0} (found : Option A) (x : A) (ts rest : List Lexeme) (left : ℕ)
    → given found ts left ≡ Ok (x, rest) → found ≡ Some x
given_first None x ts rest left e = absurd cc
given_first {A} (Some y) x ts rest left e =
    ap (λ (p : A × List Lexeme). Some p.0) (same_read (y, ts) (x, rest) e)

none_first : {A : Type 0} (found : Option A) (ts : List Lexeme) (left other : ℕ)
    → given found ts left ≡ Err other → found ≡ None
none_first None ts left other e = refl
none_first (Some y) ts left other e = absurd cc

inner_is : (t : Tokenized) (from end : ℕ) (ending : Ending) (run : RunEnd t from end)
    → may_be_operand ending ≡ true
    → inner_operand ending (take (end - from) (left_from t from)) ≡ operand_of run.last
inner_is t from end ending run may =
    ap (inner_operand ending) run.parts
    ∙ inner_of_last ending (take (end - 1 - from) (left_from t from)) run.last may

pub last_there : (t : Tokenized) (from end : ℕ) (ending : Ending) (value : Operand × List Mention)
    (rest : List Lexeme) → from < end → end ≤ length t.tokens → may_be_operand ending ≡ true
    → operand_at (left_from t (end - 1)) ≡ Ok (value, rest)
    → inner_operand ending (take (end - from) (left_from t from)) ≡ Some value
unfolding operand_at one_at
last_there t from end ending value rest forth within may e =
    let run = run_end t from end forth within in
    inner_is t from end ending run may
    ∙ given_first (operand_of run.last) value (left_from t end) rest (suc (length (left_from t end)))
    (ap operand_at (sym run.here) ∙ e)

pub last_none : (t : Tokenized) (from end : ℕ) (ending : Ending) (left : ℕ)
    → from < end → end ≤ length t.tokens → may_be_operand ending ≡ true
    → operand_at (left_from t (end - 1)) ≡ Err left
    → inner_operand ending (take (end - from) (left_from t from)) ≡ None
unfolding operand_at one_at
last_none t from end ending left forth within may e =
    let run = run_end t from end forth within in
    inner_is t from end ending run may
    ∙ none_first (operand_of run.last) (left_from t end) (suc (length (left_from t end))) left
    (ap operand_at (sym run.here) ∙ e)

-- ---- no operand

pub not_at_end : (ending : Ending) (us : List Lexeme) → may_be_operand ending ≡ false
    → inner_operand ending us ≡ None
not_at_end ending us may = rw may refl

pub none_at_all : (t : Tokenized) (from end : ℕ) (ending : Ending) → from ≡ end
    → inner_operand ending (take (end - from) (left_from t from)) ≡ None
none_at_all t from end ending same =
    let none : end - from ≡ 0 = omega (arith, same) in
    ap (λ (n : ℕ). inner_operand ending (take n (left_from t from))) none ∙ of_any (may_be_operand ending) refl
  where
    of_any : (may : Bool) → may_be_operand ending ≡ may → inner_operand ending [] ≡ None
    of_any true e = rw e refl
    of_any false e = rw e refl
