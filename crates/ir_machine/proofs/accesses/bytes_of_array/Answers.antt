use Rattle.std.proofs.Common.{◌≡◌, ◌≢◌, ℕ, suc, ◌+◌, ◌*◌, ◌<◌, ◌≤◌, List, [], ◌∷◌, length, get_or, drop, fold, sym}
use Rattle.std.proofs.Common.{arith, get_or-drop, length-drop}
use Rattle.std.proofs.Math.Nat.{zero-mul, mul-zero, mul-le-mul_left}
use Rattle.std.proofs.lemmas.Bool.{eqb-true, eqb-false}
use Rattle.std.proofs.lemmas.List.{drop_more}
use Rattle.std.proofs.lemmas.List.Folds.{fold_stuck}
use Rattle.ir_rules.specs.Limits.{array_size}
use Rattle.ir_machine.proofs.accesses.bytes_of_array.Goals as goal

-- with no elements in one of its dimensions an array has no bytes
no_bytes : (dims : List ℕ) (width i : ℕ) → i < length dims → get_or dims i 0 ≡ 0 → array_size dims width ≡ 0
no_bytes dims width i within none = sym (fold_stuck _ 0 zero-mul _ dims i 0 within (rw none (mul-zero _)))

-- dimensions with some elements each lead to no fewer bytes
no_fewer : (dims : List ℕ) (size : ℕ) → ((k : ℕ) → k < length dims → get_or dims k 0 ≢ 0)
    → size ≤ fold (λ size dim. size * dim) size dims
no_fewer [] size some = omega arith
no_fewer (dim ∷ dims) size some =
    let one : 1 ≤ dim = omega (arith, some 0 (omega arith)) in
    let more = no_fewer dims (size * dim) (λ k within. some (suc k) (omega arith)) in
    omega (arith, more, mul-le-mul_left size one)

pub returns-then-contains : goal.returns-then-contains
returns-then-contains c =
    let found = (c.if-contains.ensures).cases in
    let none = no_bytes c.args.dims.now c.args.width found.0 found.1 (eqb-true _ 0 (found.2 0)) in
    (omega arith, sym none)

pub returns-in_err-size : goal.returns-in_err-size
returns-in_err-size c =
    let dims = c.args.dims.now in
    let next = c.loop-dim.dim-index + 1 in
    let rest = drop next dims in
    let size = c.loop-dim.size * get_or dims c.loop-dim.dim-index 0 in
    let some : (k : ℕ) → k < length rest → get_or rest k 0 ≢ 0 = λ k within.
    let inside : next + k < length dims = omega (arith, length-drop next dims) in
    rw get_or-drop (eqb-false _ 0 ((c.if-contains.ensures).cases (next + k) 0 (omega arith) inside)) in
    let whole = rw (drop_more dims c.loop-dim.dim-index 0 c.loop-dim-test.true) at c.loop-dim.invariant.0 in
    rw c.from_residual.ensures (λ fits. c.in_err-size.ensures (omega (arith, no_fewer rest size some, whole)))
