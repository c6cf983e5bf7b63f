-- The phis behind other instructions, one instruction at a time.
use Rattle.std.proofs.Common.{◌≡◌, Bool, true, false, List, ◌∷◌}
use Rattle.ir_model.specs.declared.function.Instr.{Instr}
use Rattle.ir_model.specs.Shapes.{is_phi}
use Rattle.ir_rules.specs.Blocks.{late}

module _ (instr : Instr) (instrs : List Instr) where
  pub late_other : (other : Bool) → is_phi instr.op ≡ false → late other (instr ∷ instrs) ≡ late true instrs
  late_other true behind = simp behind
  late_other false behind = simp behind

  pub late_first : is_phi instr.op ≡ true → late false (instr ∷ instrs) ≡ late false instrs
  late_first is = simp is

  pub late_found : is_phi instr.op ≡ true → late true (instr ∷ instrs) ≡ instr ∷ late true instrs
  late_found is = simp is

pub ruleset late_steps = (late_other, late_first, late_found)
