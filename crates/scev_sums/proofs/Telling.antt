-- How answers of calls one after another tell what is formed of all.
use Rattle.std.proofs.Common.{◌≡◌, Ok, Err, sym, ap, subst}
use Rattle.std.specs.declared.result.Result.{Result}
use Rattle.scev_arena.specs.declared.limit.Limit.{Limit}
use Rattle.scev_arena.specs.declared.limit.Limit.TheVariants as limit
use Rattle.scev_forms.specs.Outcome.{Outcome, Refused, next}
use Rattle.scev_sums.specs.declared.error.FoldError.{FoldError}
use Rattle.scev_sums.specs.declared.error.FoldError.TheVariants.{TooWide, TooHigh, TooDeep, OutOfMemory}
use Rattle.scev_sums.specs.Errors.{error_of}
use Rattle.scev_sums.specs.Answers.{Tells}

-- what is answered is what is formed next, of what was formed first
pub told_next : {A B C D : Type 0} (First : A → B → Type 0) (Then : C → D → Type 0) (outcome : Outcome B)
    (f : B → Outcome D) (a : A) (result : Result C FoldError)
    → Tells First outcome (Ok a)
    → ((b : B) → First a b → Tells Then (f b) result)
    → Tells Then (next outcome f) result
told_next First Then outcome f a result told after =
    subst (λ o. Tells Then (next o f) result) (sym told.1) (after told.0 told.2)

-- a refusal of what is formed first is one of all
pub told_refused : {A B C D : Type 0} (First : A → B → Type 0) (Then : C → D → Type 0) (outcome : Outcome B)
    (f : B → Outcome D) (error : FoldError)
    → Tells First outcome (Err error)
    → Tells Then (next outcome f) (Err error)
told_refused First Then outcome f TooWide told = ap (λ o. next o f) told
told_refused First Then outcome f TooHigh told = ap (λ o. next o f) told
told_refused First Then outcome f TooDeep told = ap (λ o. next o f) told
told_refused First Then outcome f OutOfMemory told = tt

-- the same of another outcome
pub told_same : {A B : Type 0} (Is : A → B → Type 0) (outcome other : Outcome B) (result : Result A FoldError)
    → outcome ≡ other
    → Tells Is outcome result
    → Tells Is other result
told_same Is outcome other result e told = subst (λ o. Tells Is o result) e told

-- the same where what stands for what is formed stands for it in another sense
pub told_more : {A B : Type 0} (Is Becomes : A → B → Type 0) (outcome : Outcome B) (result : Result A FoldError)
    → ((a : A) (b : B) → Is a b → Becomes a b)
    → Tells Is outcome result
    → Tells Becomes outcome result
told_more Is Becomes outcome (Ok a) more told = (told.0, told.1, more a told.0 told.2)
told_more Is Becomes outcome (Err TooWide) more told = told
told_more Is Becomes outcome (Err TooHigh) more told = told
told_more Is Becomes outcome (Err TooDeep) more told = told
told_more Is Becomes outcome (Err OutOfMemory) more told = tt

-- the error of a limit tells a refusal by it
pub told_limit : {A B : Type 0} (Is : A → B → Type 0) (outcome : Outcome B) (why : Limit)
    → outcome ≡ Refused why
    → Tells Is outcome (Err (error_of why))
told_limit Is outcome limit.TooWide refused = refused
told_limit Is outcome limit.TooHigh refused = refused
told_limit Is outcome limit.TooDeep refused = refused
