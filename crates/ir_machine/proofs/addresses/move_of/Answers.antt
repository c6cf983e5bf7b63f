use Rattle.std.proofs.Common.{◌≡◌, ℕ, zero, suc, ◌+◌, ◌-◌, ◌*◌, ◌%◌, ◌^◌, ◌<◌, List, [], ◌∷◌, length, drop, Option}
use Rattle.std.proofs.Common.{Some, None, option_map, option_and_then, refl, ap, arith, drop-cons}
use Rattle.std.proofs.Math.Seq.{drop-length}
use Rattle.std.proofs.lemmas.List.Sums.{sum_by-cons}
use Rattle.std.proofs.lemmas.Nat.{mul-mod_second}
use Rattle.std.specs.Prelude.{slice_get}
use Rattle.ir_meaning.specs.declared.value.Value.{Value}
use Rattle.ir_meaning.specs.declared.value.Value.TheVariants as value
use Rattle.ir_meaning.specs.State.{Registers}
use Rattle.ir_meaning.specs.Accesses.{index_values, index_steps, parts_of}
use Rattle.ir_machine.specs.Stands.{register}
use Rattle.ir_machine.specs.Effects.{bytes_moved, moved_by, moved_more}
use Rattle.ir_machine.proofs.addresses.move_of.Goals as goal

-- no indices move by nothing
none_moved : (registers : Registers) (n : ℕ) (steps : List ℕ) → Some (Some 0) ≡ moved_by registers n steps []
none_moved registers n [] = refl
none_moved registers n (step ∷ steps) = refl

-- by how many bytes indices of these values move
abbrev moved_by_values : List ℕ → Option (List Value) → Option (Option ℕ)
moved_by_values steps xs = option_map (λ (xs : List Value). option_map bytes_moved (parts_of steps xs)) xs

-- values with one more in front
abbrev more_values : Option Value → Option (List Value) → Option (List Value)
more_values x xs = option_and_then (λ (x : Value). option_map (λ (xs : List Value). x ∷ xs) xs) x

bytes_more : (k step : ℕ) (parts : List (ℕ × ℕ))
    → bytes_moved ((k, step) ∷ parts) ≡ (bytes_moved parts + k * (step % 2 ^ 64)) % 2 ^ 64
bytes_more k step parts =
    rw (sum_by-cons (λ (part : ℕ × ℕ). part.0 * part.1) (k, step) parts)
    (omega (arith, mul-mod_second k step (2 ^ 64)))

-- a number in front
number_more : (k step : ℕ) (parts : Option (List (ℕ × ℕ)))
    → Some (option_map bytes_moved (option_map (λ (parts : List (ℕ × ℕ)). (k, step) ∷ parts) parts))
    ≡ moved_more (Some (value.Number k)) (Some (step % 2 ^ 64)) (Some (option_map bytes_moved parts))
number_more k step None = refl
number_more k step (Some parts) = ap (λ (bytes : ℕ). Some (Some bytes)) (bytes_more k step parts)

-- any value in front, with the first of some steps
step_more : (step : ℕ) (steps : List ℕ) (x : Option Value) (xs : Option (List Value))
    → moved_by_values (step ∷ steps) (more_values x xs)
    ≡ moved_more x (Some (step % 2 ^ 64)) (moved_by_values steps xs)
step_more step steps None xs = refl
step_more step steps (Some x) None = refl
step_more step steps (Some (value.Number k)) (Some xs) = number_more k step (parts_of steps xs)
step_more step steps (Some (value.Pointer block offset)) (Some xs) = refl
step_more step steps (Some value.Null) (Some xs) = refl
step_more step steps (Some value.Poison) (Some xs) = refl

-- and with none
past_more : (x : Option Value) (xs : Option (List Value))
    → moved_by_values [] (more_values x xs) ≡ moved_more x None (moved_by_values [] xs)
past_more None xs = refl
past_more (Some x) None = refl
past_more (Some x) (Some xs) = refl

-- at any place
place_more : (steps : List ℕ) (at : ℕ) (x : Option Value) (xs : Option (List Value))
    → moved_by_values (drop at steps) (more_values x xs)
    ≡ moved_more x (option_map (λ step. step % 2 ^ 64) (slice_get steps at)) (moved_by_values (drop (suc at) steps) xs)
place_more [] zero x xs = past_more x xs
place_more [] (suc at) x xs = past_more x xs
place_more (step ∷ steps) zero x xs = step_more step steps x xs
place_more (step ∷ steps) (suc at) x xs = place_more steps at x xs

pub loop-at-init : goal.loop-at-init
loop-at-init c =
    let indices = c.args.indices.now in
    let steps = drop (length indices) (index_steps c.args.kind.now) in
    rw (drop-length indices) (none_moved (register c.args.registers.now) c.args.n steps)

pub loop-at-preserved : goal.loop-at-preserved
loop-at-preserved c =
    let indices = c.args.indices.now in
    let steps = index_steps c.args.kind.now in
    let at = c.loop-at.at - 1 in
    let next : suc at ≡ c.loop-at.at = omega arith in
    let within : at < length indices = omega arith in
    let xs = index_values (register c.args.registers.now) c.args.n (drop (suc at) indices) in
    let more = place_more steps at c.index_value-x.result xs in
    let first = drop-cons indices at c.index-indices-at.result within in
    rw (first, ← c.index-indices-at.is, ← c.index_value-x.ensures, more, next)
    (rw (← c.loop-at.invariant, ← c.index_step.ensures) c.moved_with-moved.ensures)
