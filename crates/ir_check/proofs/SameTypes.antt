-- Types in order, compared one at a time.
use Rattle.std.proofs.Common.{◌≡◌, ℕ, zero, suc, ◌<◌, ◌&&◌, Bool, true, false, List, [], ◌∷◌, length, drop, get_or}
use Rattle.std.proofs.Common.{refl, ap, arith}
use Rattle.ir_model.specs.declared.types.IrType.{IrType}
use Rattle.ir_model.specs.declared.op.TypedOperand.{TypedOperand}
use Rattle.ir_rules.specs.Types.{same_type}
use Rattle.ir_rules.specs.Values.{same_types, kinds_of}

and_false : (b : Bool) → (b && false) ≡ false
and_false true = refl
and_false false = refl

pub other_length : (args : List TypedOperand) (kinds : List IrType) → (length args ≡ length kinds → ⊥)
    → same_types (kinds_of args) kinds ≡ false
other_length [] [] other = absurd (other refl)
other_length [] (kind ∷ kinds) other = refl
other_length (arg ∷ args) [] other = refl
other_length (arg ∷ args) (kind ∷ kinds) other =
    rw (other_length args kinds (λ e. other (ap suc e))) (and_false (same_type arg.kind kind))

-- the next types are compared, and then those behind them
pub same_behind : (args : List TypedOperand) (kinds : List IrType) (i : ℕ) (arg : TypedOperand) (kind : IrType)
    → i < length args → i < length kinds → arg ≡ get_or args i arg → kind ≡ get_or kinds i kind
    → same_types (kinds_of (drop i args)) (drop i kinds)
    ≡ (same_type arg.kind kind && same_types (kinds_of (drop (suc i) args)) (drop (suc i) kinds))
same_behind [] kinds i arg kind here there is also = absurd (omega arith)
same_behind (a ∷ args) [] i arg kind here there is also = absurd (omega arith)
same_behind (a ∷ args) (k ∷ kinds) zero arg kind here there is also = rw (is, also) refl
same_behind (a ∷ args) (k ∷ kinds) (suc i) arg kind here there is also =
    same_behind args kinds i arg kind (omega arith) (omega arith) is also
