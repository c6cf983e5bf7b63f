-- Beginnings of calls are read, and what is read from where the last one begins tells whether the tokens end with one.
use Rattle.std.proofs.Common.{◌≡◌, ℕ, suc, true, false, List, [], ◌∷◌, ◌++◌, length, take, Option, Some, None, Ok, Err, refl, sym, ap, ◌∙◌, codes}
use Rattle.ir_model.specs.declared.types.IrType.{IrType}
use Rattle.ir_text.specs.Tokens.{Lexeme}
use Rattle.ir_text.specs.Listed.{word}
use Rattle.ir_text.specs.Language.{◌·◌, keyword}
use Rattle.ir_text.specs.Said.{said_global}
use Rattle.ir_model.specs.Kinds.{IsReturned}
use Rattle.ir_text.specs.Types.{SpellsTypeOf}
use Rattle.ir_text.specs.Written.{IsGlobal}
use Rattle.ir_lex.specs.Tokenized.{Tokenized, lexemes}
use Rattle.ir_grammar.specs.Operations.{is_intrinsic}
use Rattle.ir_grammar.specs.Spelled.{begun_call}
use Rattle.ir_parts.specs.declared.ending.Run.{Run}
use Rattle.ir_parts.specs.Reading.{◌>>=◌, pure, given, one_at, left_from, begins}
use Rattle.ir_parts.specs.TypeReading.{returned_type_at}
use Rattle.ir_parts.specs.Runs.{run_of, SpellsRun}
use Rattle.ir_parts.proofs.Readers.{IsReader, Anything, of_language, mapped, followed, same_read}
use Rattle.ir_parts.proofs.Combined.{behind_token}
use Rattle.ir_parts.proofs.SingleTokens.{keyword_reads}
use Rattle.ir_parts.proofs.TypeReaders.{returned_types}
use Rattle.ir_parts.proofs.RunReader.{run_reads}
use Rattle.ir_parts.proofs.RunEnds.{ended_by, type_ends}
use Rattle.ir_parts.proofs.SaidNames.{global_there, global_back}
use Rattle.ir_left_out.specs.Begun.{names_intrinsic, is_intrinsic_token, EndsCall, begun_call_at, depth_before}
use Rattle.ir_left_out.proofs.RunDepth.{begun}
use Rattle.ir_left_out.proofs.EndsIn.{ends_back}

-- ---- beginnings of calls

-- a type that is returned
abbrev Returned : List Lexeme → Type 0
Returned ts = (ret : IrType) × SpellsTypeOf IsReturned ret ts

-- It is read, and nothing is said of it.
type_reads : IsReader (returned_type_at >>= λ ret. pure tt) (λ (x : Unit {0}). Returned) Anything
type_reads = of_language (λ (x : Unit {0}). Returned) (λ x ts l. (l.0, l.2)) (λ x ts l. (l.0, refl, l.1))
    (mapped (λ ret. tt) Anything (λ x t s. tt) (λ x t s. tt) returned_types)

-- The beginning of a call is read.
pub begun_reads : IsReader begun_call_at (λ (x : Unit {0}). begun_call) Anything
unfolding begun_call_at
begun_reads = of_language (λ (x : Unit {0}). begun_call) there back
    (behind_token (keyword_reads (codes "call"))
    (followed (λ run. returned_type_at >>= λ ret. pure tt) (λ run x. Returned) Anything run_reads (λ run. type_reads)
    (λ run x taken rest l stops. ended_by run taken rest (type_ends l.0 taken l.1.1))))
  where
    there : (x : Unit {0}) (ts : List Lexeme)
        → (keyword (codes "call") · (λ ts. (run : Run) × (SpellsRun run · Returned) ts)) ts → begun_call ts
    there x ts (us, vs, parts, is, (run, (words, kind, seam, l, ret))) =
        (us, vs, parts, is, (words, kind, seam, (l.0, l.1), ret))

    back : (x : Unit {0}) (ts : List Lexeme) → begun_call ts
        → (keyword (codes "call") · (λ ts. (run : Run) × (SpellsRun run · Returned) ts)) ts
    back x ts (us, vs, parts, is, (words, kind, seam, l, ret)) =
        (us, vs, parts, is, (run_of l.0, (words, kind, seam, (l.0, l.1, refl), ret)))

-- The place is that of the last `call` outside brackets, where there is one.
abbrev pub IsLastCall : Tokenized → ℕ → ℕ → Type 0
IsLastCall t at place = (front rest : List Lexeme) → take at (lexemes t) ≡ front ++ word (codes "call") ∷ rest
    → depth_before rest ≡ Some 0 → place ≡ length front

-- Where the tokens before a place end with a call's beginning, it is read from its place up to this one.
pub ends_read : (t : Tokenized) (at place : ℕ) → IsLastCall t at place → EndsCall (take at (lexemes t))
    → begun_call_at (left_from t place) ≡ Ok (tt, left_from t at)
ends_read t at place last ends =
    let call = begun ends.1 ends.3 in
    ap (λ (n : ℕ). begun_call_at (left_from t n))
    (last ends.0 call.0 (ends.2 ∙ ap (λ (call : List Lexeme). ends.0 ++ call) call.1) call.2)
    ∙ ends_back begun_reads t at ends

-- ---- globals whose names begin `llvm.`

-- what was given, and what wasn't
given_is : {A : Type 0} (o : Option A) (rest after : List Lexeme) (left : ℕ) (x : A)
    → given o rest left ≡ Ok (x, after) → o ≡ Some x
given_is {A} (Some y) rest after left x e =
    ap (λ (read : A × List Lexeme). Some read.0) (same_read (y, rest) (x, after) e)
given_is None rest after left x e = absurd cc

none_given : {A : Type 0} (o : Option A) (rest : List Lexeme) (left some : ℕ) → given o rest left ≡ Err some → o ≡ None
none_given (Some y) rest left some e = absurd cc
none_given None rest left some e = refl

-- A name that was read is that of the first token.
pub name_read : (ts after : List Lexeme) (name : List ℕ) → one_at said_global ts ≡ Ok (name, after)
    → is_intrinsic name ≡ begins is_intrinsic_token ts
unfolding one_at
name_read [] after name e = absurd cc
name_read (t ∷ ts) after name e =
    sym (ap names_intrinsic (given_is (said_global t) ts after (suc (length ts)) name e))

-- Where none was read, the first token is no such global.
pub no_name_read : (ts : List Lexeme) (left : ℕ) → one_at said_global ts ≡ Err left
    → false ≡ begins is_intrinsic_token ts
unfolding one_at
no_name_read [] left e = refl
no_name_read (t ∷ ts) left e = sym (ap names_intrinsic (none_given (said_global t) ts (suc (length ts)) left e))

-- a global whose name begins `llvm.`
abbrev pub NamesIntrinsic : Lexeme → Type 0
NamesIntrinsic t = (name : List ℕ) × IsGlobal name t × (is_intrinsic name ≡ true)

-- The test says so.
pub intrinsic_there : (t : Lexeme) → is_intrinsic_token t ≡ true → NamesIntrinsic t
intrinsic_there t e = decide (said_global t) refl e
  where
    decide : (o : Option (List ℕ)) → said_global t ≡ o → names_intrinsic o ≡ true → NamesIntrinsic t
    decide (Some name) is e = (name, global_there name t is, e)
    decide None is e = absurd cc

-- It passes at every such token.
pub intrinsic_back : (t : Lexeme) → NamesIntrinsic t → is_intrinsic_token t ≡ true
intrinsic_back t (name, is, e) = ap names_intrinsic (global_back name t is) ∙ e
