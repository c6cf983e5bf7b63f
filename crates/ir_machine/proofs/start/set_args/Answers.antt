use Rattle.std.proofs.Common.{◌≡◌, List, [], ◌∷◌, length, inl, inr, refl, sym, ◌∙◌}
use Rattle.std.proofs.Math.Nat.{suc-ne-zero}
use Rattle.ir_model.specs.declared.function.Param.{Param}
use Rattle.ir_meaning.specs.declared.value.Value.{Value}
use Rattle.ir_meaning.specs.State.{Registers}
use Rattle.ir_meaning.specs.Run.{with_args}
use Rattle.ir_machine.specs.Stands.{register}
use Rattle.ir_machine.proofs.start.set_args.Goals as goal

no_params : (registers : Registers) (params : List Param) (args : List Value) → length params ≡ 0
    → with_args registers params args ≡ registers
no_params registers [] args e = refl
no_params registers (p ∷ ps) args e = absurd (suc-ne-zero (length ps) e)

no_args : (registers : Registers) (params : List Param) (args : List Value) → length args ≡ 0
    → with_args registers params args ≡ registers
no_args registers [] args e = refl
no_args registers (p ∷ ps) [] e = refl
no_args registers (p ∷ ps) (x ∷ xs) e = absurd (suc-ne-zero (length xs) e)

pub returns : goal.returns
returns c =
    let registers = register c.loop-param.registers in
    let left = c.loop-param.param-iterator in
    elim c.in-None.ensures.steps [
      | inl e ↦ sym (no_params registers left.a.rest.now left.b.rest.now e.1.0) ∙ c.loop-param.invariant
      | inr e ↦ sym (no_args registers left.a.rest.now left.b.rest.now e.1.0) ∙ c.loop-param.invariant
    ]
