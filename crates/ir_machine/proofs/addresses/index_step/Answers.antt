use Rattle.std.proofs.Common.{◌≡◌, ℕ, zero, suc, ◌<◌, ◌≤◌, List, [], ◌∷◌, ◌-◌, length, drop, take, Some, None, refl, ap}
use Rattle.std.proofs.Common.{arith, length-drop}
use Rattle.std.proofs.lemmas.List.{take_all}
use Rattle.std.specs.Prelude.{slice_get}
use Rattle.ir_rules.specs.Limits.{array_size}
use Rattle.ir_meaning.specs.Accesses.{steps_within}
use Rattle.ir_machine.proofs.addresses.index_step.Goals as goal

-- the step of each index that an array has
step_at : (dims : List ℕ) (w at : ℕ) → at ≤ length dims
    → slice_get (array_size dims w ∷ steps_within dims w) at ≡ Some (array_size (drop at dims) w)
step_at dims w zero within = refl
step_at [] w (suc at) within = absurd (omega arith)
step_at (dim ∷ dims) w (suc at) within = step_at dims w at (omega arith)

-- and no further one
no_step : (dims : List ℕ) (w at : ℕ) → length dims < at
    → slice_get (array_size dims w ∷ steps_within dims w) at ≡ None
no_step dims w zero past = absurd (omega arith)
no_step [] w (suc at) past = refl
no_step (dim ∷ dims) w (suc at) past = no_step dims w at (omega arith)

pub returns-in_err-get-in-Array : goal.returns-in_err-get-in-Array
returns-in_err-get-in-Array c =
    let past : length c.in-Array.dims < c.args.at =
    omega (arith, c.in_err-get-in-Array.ensures.lookup.0, ap (λ (xs : List ℕ). length xs) c.as_slice.ensures) in
    rw (c.from_residual.ensures, c.in-Array.is, no_step c.in-Array.dims c.in-Array.w c.args.at past) refl

pub returns-in_ok-get-in-Array : goal.returns-in_ok-get-in-Array
returns-in_ok-get-in-Array c =
    let dims = c.in-Array.dims in
    let at = c.args.at in
    let found = rw c.as_slice.ensures at (c.in_ok-get-in-Array.ensures).lookup.0 in
    let whole : take (length dims - at) (drop at dims) ≡ drop at dims =
    take_all (length dims - at) (drop at dims) (omega (arith, length-drop at dims)) in
    rw (c.in-Array.is, step_at dims c.in-Array.w at found.0, ← whole, ← found.2, c.array_size.ensures) refl
