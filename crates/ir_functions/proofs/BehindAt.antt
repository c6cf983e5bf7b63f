-- What stands behind a call, at a place of the tokens.
use Rattle.std.proofs.Common.{◌≡◌, ℕ, ◌-◌, ◌≤◌, zero, suc, Bool, if◌then◌else◌, nat_eq, List, [], ◌∷◌, length, take, Option, Some, None, Ok, Err, refl, sym, ap, ◌∙◌, arith}
use Rattle.std.proofs.lemmas.Bool.{ne_eqb}
use Rattle.ir_text.specs.Tokens.{Lexeme}
use Rattle.ir_lex.specs.Tokenized.{Tokenized}
use Rattle.ir_parts.specs.declared.ending.Ending.{Ending}
use Rattle.ir_parts.specs.declared.ending.Run.{Run}
use Rattle.ir_parts.specs.declared.fault.ItemFault.{ItemFault}
use Rattle.ir_parts.specs.declared.fault.ItemFault.TheVariants.{CannotGoOn, OutOfMemory}
use Rattle.ir_parts.specs.Reading.{left_from, taking, Reads, Passes}
use Rattle.ir_parts.specs.WordsReading.{words_at}
use Rattle.ir_parts.specs.MetadataReading.{attachments_at}
use Rattle.ir_parts.proofs.Places.{length_left}
use Rattle.ir_functions.specs.Silent.{trailing_at}
use Rattle.ir_functions.specs.Calls.{tail_of, ended_at}

-- no token is taken exactly where the places are one
none_taken : (ts : List Lexeme) (n : ℕ) (run : Run) (text : List ℕ) → n ≤ length ts
    → tail_of ((run, text), (tt, take n ts)) ≡ (if nat_eq n 0 then Some run.ending else None)
none_taken ts zero run text within = refl
none_taken [] (suc n) run text within = absurd (omega (arith, within))
none_taken (t ∷ ts) (suc n) run text within =
    sym (ap (λ (b : Bool). if b then Some run.ending else None) (ne_eqb (suc n) 0 (λ e. omega (arith, e))))

pub ended_there : (t : Tokenized) (from end at : ℕ) (run : Run) (text : List ℕ) → end ≤ at → at ≤ length t.tokens
    → words_at (left_from t from) ≡ Ok ((run, text), left_from t end)
    → attachments_at (left_from t end) ≡ Ok (tt, left_from t at)
    → (tail : Option Ending) → tail ≡ (if nat_eq at end then Some run.ending else None)
    → ended_at (left_from t from) ≡ Ok ((text, tail), left_from t at)
unfolding ended_at trailing_at taking
ended_there t from end at run text forth within first second tail is =
    let so_many : length (left_from t end) - length (left_from t at) ≡ at - end =
    omega (arith, length_left t end, length_left t at) in
    let inside : at - end ≤ length (left_from t end) = omega (arith, length_left t end, within) in
    rw (first, second) (
    ap (λ (n : ℕ). Ok ((text, tail_of ((run, text), (tt, take n (left_from t end)))), left_from t at)) so_many
    ∙ ap (λ (tail : Option Ending). Ok ((text, tail), left_from t at))
    (none_taken (left_from t end) (at - end) run text inside
    ∙ (ap (λ (b : Bool). if b then Some run.ending else None) (same_test at end forth) ∙ sym is)))
  where
    same_test : (at end : ℕ) → end ≤ at → nat_eq (at - end) 0 ≡ nat_eq at end
    same_test at end forth = grind arith

pub first_refused : (t : Tokenized) (from : ℕ) (fault : ItemFault)
    → Reads {X = Run × List ℕ} t (Err fault) (words_at (left_from t from))
    → Reads {X = List ℕ × Option Ending} t (Err fault) (ended_at (left_from t from))
unfolding ended_at trailing_at
first_refused t from OutOfMemory e = tt
first_refused t from (CannotGoOn at) e = (rw e.0 refl, e.1)

pub then_refused : (t : Tokenized) (from end : ℕ) (said : Run × List ℕ) (fault : ItemFault)
    → words_at (left_from t from) ≡ Ok (said, left_from t end)
    → Passes t (Err fault) (attachments_at (left_from t end))
    → Reads {X = List ℕ × Option Ending} t (Err fault) (ended_at (left_from t from))
unfolding ended_at trailing_at taking
then_refused t from end said OutOfMemory first e = tt
then_refused t from end said (CannotGoOn at) first e = (rw (first, e.0) refl, e.1)
