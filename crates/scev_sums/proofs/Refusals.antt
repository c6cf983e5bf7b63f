-- How what a call answers leads on to what is formed of all.
use Rattle.std.proofs.Common.{◌≡◌, Result, Err, sym, ap, ◌∙◌, subst}
use Rattle.scev_forms.specs.Outcome.{Outcome, Done, next}
use Rattle.scev_sums.specs.declared.error.FoldError.{FoldError}
use Rattle.scev_sums.specs.declared.error.FoldError.TheVariants.{TooWide, TooHigh, TooDeep, OutOfMemory}
use Rattle.scev_sums.specs.Answers.{Tells}
use Rattle.scev_sums.proofs.Telling.{told_refused}

-- All is what comes next of what is formed first.
pub record LeadsOn {B D : Type 0} (outcome : Outcome B) (f : B → Outcome D) (whole : Outcome D) : Type 0 where
  pub leads : next outcome f ≡ whole

-- an error that is handed on
abbrev pub IsHanded : {C : Type 0} → FoldError → Result C FoldError → Type 0
IsHanded error result = (other : FoldError) × (result ≡ Err other) × (other ≡ error)

-- what was formed first leads on
pub led_on : {B D : Type 0} {outcome : Outcome B} {f : B → Outcome D} {whole : Outcome D} (b : B)
    → LeadsOn outcome f whole
    → outcome ≡ Done b
    → f b ≡ whole
led_on {f = f} b leads e = sym (ap (λ o. next o f) e) ∙ leads.leads

-- the error of the call that forms what is first
pub refused : {A B C D : Type 0} {outcome : Outcome B} {f : B → Outcome D} {whole : Outcome D} {error : FoldError}
    {result : Result C FoldError} (First : A → B → Type 0) (Then : C → D → Type 0)
    → LeadsOn outcome f whole
    → Tells First outcome (Err error)
    → IsHanded error result
    → Tells Then whole result
refused {outcome = outcome} {f = f} {error = error} {result = result} First Then leads told handed =
    subst (λ o. Tells Then o result) leads.leads
    (subst (Tells Then (next outcome f)) (sym (handed.1 ∙ ap Err handed.2))
    (told_refused First Then outcome f error told))

-- the error of a call is one of all that is formed
refusal_same : {A B C : Type 0} (First : A → B → Type 0) (Then : C → B → Type 0) (outcome : Outcome B)
    (error : FoldError)
    → Tells First outcome (Err error)
    → Tells Then outcome (Err error)
refusal_same First Then outcome TooWide told = told
refusal_same First Then outcome TooHigh told = told
refusal_same First Then outcome TooDeep told = told
refusal_same First Then outcome OutOfMemory told = tt

-- the error of a call that forms all
pub refused_whole : {A B C : Type 0} {outcome whole : Outcome B} {error : FoldError} {result : Result C FoldError}
    (First : A → B → Type 0) (Then : C → B → Type 0)
    → outcome ≡ whole
    → Tells First outcome (Err error)
    → IsHanded error result
    → Tells Then whole result
refused_whole {outcome = outcome} {error = error} {result = result} First Then e told handed =
    subst (λ o. Tells Then o result) e
    (subst (Tells Then outcome) (sym (handed.1 ∙ ap Err handed.2)) (refusal_same First Then outcome error told))
