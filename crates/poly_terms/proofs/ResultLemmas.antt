-- What holds of a result holds still where one fact gives another.
use Rattle.std.proofs.Common.{Result, Ok, Err, IfOk}
use Rattle.std.specs.Result.{IfErr}

pub still_ok : {A E : Type 0} (r : Result A E) (P Q : A → Type 0) → ((a : A) → P a → Q a) → IfOk r P → IfOk r Q
still_ok (Ok a) P Q f h = f a h
still_ok (Err e) P Q f h = h

pub still_err : {A E : Type 0} (r : Result A E) (P Q : E → Type 0) → ((e : E) → P e → Q e) → IfErr r P → IfErr r Q
still_err (Ok a) P Q f h = h
still_err (Err e) P Q f h = f e h
