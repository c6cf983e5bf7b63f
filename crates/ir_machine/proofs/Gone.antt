-- What is computed leaves memory as it is.
use Rattle.std.specs.Prelude.{◌≡◌, ℕ, refl}
use Rattle.std.proofs.Common.{sym, ap, ◌∙◌}
use Rattle.ir_model.specs.declared.op.Op.{Op}
use Rattle.ir_memory.specs.Memory.{Memory}
use Rattle.ir_meaning.specs.State.{Registers, State}
use Rattle.ir_meaning.specs.Step.{computed, gone}
use Rattle.ir_machine.specs.Effects.{meant, meant_effect}
use Rattle.ir_machine.specs.declared.effect.Computed.{Computed}
use Rattle.ir_machine.specs.declared.effect.Computed.TheVariants as found

gone_meant : (s : State) (x : Computed) → gone s (meant x) ≡ meant_effect x s.memory
gone_meant s (found.Gives x) = refl
gone_meant s found.Undefined = refl
gone_meant s found.Stuck = refl

pub gone_computed : (s : State) (registers : Registers) (memory : Memory) (n : ℕ) (op : Op) (x : Computed)
    → s.registers ≡ registers → s.memory ≡ memory → meant x ≡ computed registers n op
    → gone s (computed s.registers n op) ≡ meant_effect x memory
gone_computed s registers memory n op x held same e =
    ap (λ (r : Registers). gone s (computed r n op)) held ∙ ap (gone s) (sym e) ∙ gone_meant s x
    ∙ ap (meant_effect x) same
