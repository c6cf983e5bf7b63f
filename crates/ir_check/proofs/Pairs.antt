-- Operands that aren't two.
use Rattle.std.proofs.Common.{◌≡◌, false, List, [], ◌∷◌, length, refl, sym}
use Rattle.std.proofs.lemmas.Bool.{and_right}
use Rattle.ir_model.specs.declared.types.IrType.{IrType}
use Rattle.ir_model.specs.declared.op.TypedOperand.{TypedOperand}
use Rattle.ir_rules.specs.Types.{same_type}
use Rattle.ir_rules.specs.Values.{same_types, kinds_of}

pub not_two : (args : List TypedOperand) (kind : IrType) → (length args ≡ 2 → ⊥)
    → false ≡ same_types (kinds_of args) (kind ∷ kind ∷ [])
not_two [] kind not = refl
not_two (a ∷ []) kind not = sym (and_right (same_type a.kind kind) false refl)
not_two (a ∷ b ∷ []) kind not = absurd (not refl)
not_two (a ∷ b ∷ d ∷ more) kind not =
    sym (and_right (same_type a.kind kind) _ (and_right (same_type b.kind kind) false refl))
