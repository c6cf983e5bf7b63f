-- Which states a machine stands for.
use Rattle.std.specs.Prelude.{◌≡◌, ℕ, ◌-◌, ◌^◌, min, List, length, Option, option_and_then, slice_get}
use Rattle.ir_memory.specs.Memory.{Memory}
use Rattle.ir_meaning.specs.declared.value.Value.{Value}
use Rattle.ir_meaning.specs.State.{State}
use Rattle.ir_machine.specs.declared.phase.Phase.{Phase}
use Rattle.ir_machine.specs.Phases.{phase_of}

-- What is seen of a machine. It keeps the number of its events, which stays at 2^64 - 1 once it is there, and neither
-- their list nor a trail.
pub record Seen : Type 0 where
  pub block : ℕ
  pub place : ℕ
  pub previous : Option ℕ
  pub registers : List (Option Value)
  pub memory : Memory
  pub events : ℕ
  pub phase : Phase

-- what a list has for a register
abbrev pub register : List (Option Value) → ℕ → Option Value
register registers v = option_and_then (λ held. held) (slice_get registers v)

-- The machine stands for the state: it has its parts, and counts as many events.
pub record Stands (m : Seen) (s : State) : Type 0 where
  pub block : m.block ≡ s.block
  pub place : m.place ≡ s.place
  pub previous : m.previous ≡ s.previous
  pub registers : (v : ℕ) → register m.registers v ≡ s.registers v
  pub memory : m.memory ≡ s.memory
  pub events : m.events ≡ min (length s.events) (2 ^ 64 - 1)
  pub phase : phase_of m.phase ≡ s.phase
