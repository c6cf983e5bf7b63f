-- What one step of a run does: it stays, ends, goes on in its block, or enters a block.
use Rattle.std.specs.Prelude.{◌≡◌, ℕ, List, Bool, true, false, Option, Some, None, if◌then◌else◌, refl}
use Rattle.ir_model.specs.declared.function.Instr.{Instr}
use Rattle.ir_model.specs.declared.function.Block.{Block}
use Rattle.ir_model.specs.declared.function.Function.{Function}
use Rattle.ir_model.specs.Shapes.{block_of, leading_phis, is_terminator}
use Rattle.ir_memory.specs.Memory.{Memory}
use Rattle.ir_meaning.specs.declared.value.Value.{Value}
use Rattle.ir_meaning.specs.Phases.{Phase}
use Rattle.ir_meaning.specs.Phases as phase
use Rattle.ir_meaning.specs.declared.choice.Choice.{Choice}
use Rattle.ir_meaning.specs.State.{Registers, Event, State, is_running, ended}
use Rattle.ir_meaning.specs.Operands.{chosen}
use Rattle.ir_meaning.specs.Effects.{Effect, Goes, Ends}
use Rattle.ir_meaning.specs.Step.{Way, Enters, Leaves, effect, way, with_phis, behind_phis, entered, after_effect}
use Rattle.ir_meaning.specs.Step.{after_way, instr_at, carried_out, step}

-- A step with the choice leads from the one state to the other.
pub data Stepped (f : Function) (choice : Choice) (s t : State) : Type 0 where
  -- a run that has come to an end stays as it is
  stays : t ≡ s → Stepped f choice s t
  ends : (how : Phase) → t ≡ ended how s → Stepped f choice s t
  -- an instruction that is no terminator is carried out
  goes_on : (instr : Instr) (x : Option Value) (memory : Memory) (events : List Event) → instr_at f s ≡ Some instr
      → is_terminator instr.op ≡ false → effect choice s instr.op ≡ Goes x memory events
      → t ≡ after_effect instr.result s (Goes x memory events) → Stepped f choice s t
  -- a terminator leads to a block, whose phis all have values
  enters : (instr : Instr) (b : ℕ) (block : Block) (registers : Registers) → instr_at f s ≡ Some instr
      → is_terminator instr.op ≡ true → way s.registers (chosen choice) instr.op ≡ Enters b → block_of f b ≡ Some block
      → with_phis s.registers (chosen choice) s.block (leading_phis block.instrs) s.registers ≡ Some registers
      → t ≡ behind_phis b block s (Some registers) → Stepped f choice s t

module _ (f : Function) (choice : Choice) (s : State) where
  acting : (instr : Instr) (e : Effect) → instr_at f s ≡ Some instr → is_terminator instr.op ≡ false
      → effect choice s instr.op ≡ e → Stepped f choice s (after_effect instr.result s e)
  acting instr (Goes x memory events) at other goes = goes_on instr x memory events at other goes refl
  acting instr (Ends how) at other over = ends how refl

  module _ (instr : Instr) (at : instr_at f s ≡ Some instr) (last : is_terminator instr.op ≡ true) where
    behind : (b : ℕ) (block : Block) (o : Option Registers) → way s.registers (chosen choice) instr.op ≡ Enters b
        → block_of f b ≡ Some block
        → with_phis s.registers (chosen choice) s.block (leading_phis block.instrs) s.registers ≡ o
        → Stepped f choice s (behind_phis b block s o)
    behind b block None leads found phis = ends phase.Stuck refl
    behind b block (Some registers) leads found phis =
        enters instr b block registers at last leads found phis refl

    entering : (b : ℕ) (o : Option Block) → way s.registers (chosen choice) instr.op ≡ Enters b → block_of f b ≡ o
        → Stepped f choice s (entered (chosen choice) b s o)
    entering b None leads found = ends phase.Stuck refl
    entering b (Some block) leads found =
        behind b block (with_phis s.registers (chosen choice) s.block (leading_phis block.instrs) s.registers) leads found refl

    leading : (w : Way) → way s.registers (chosen choice) instr.op ≡ w
        → Stepped f choice s (after_way f (chosen choice) s w)
    leading (Enters b) leads = entering b (block_of f b) leads refl
    leading (Leaves how) leads = ends how refl

  either : (instr : Instr) (b : Bool) → instr_at f s ≡ Some instr → is_terminator instr.op ≡ b
      → Stepped f choice s (if b then after_way f (chosen choice) s (way s.registers (chosen choice) instr.op) else after_effect instr.result s (effect choice s instr.op))
  either instr true at last = leading instr at last (way s.registers (chosen choice) instr.op) refl
  either instr false at other = acting instr (effect choice s instr.op) at other refl

  carrying : (o : Option Instr) → instr_at f s ≡ o → Stepped f choice s (carried_out f choice s o)
  carrying None at = ends phase.Stuck refl
  carrying (Some instr) at = either instr (is_terminator instr.op) at refl

  running : (b : Bool) → Stepped f choice s (if b then carried_out f choice s (instr_at f s) else s)
  running true = carrying (instr_at f s) refl
  running false = stays refl

pub stepped : (f : Function) (choice : Choice) (s : State) → Stepped f choice s (step f choice s)
unfolding step
stepped f choice s = running f choice s (is_running s.phase)
