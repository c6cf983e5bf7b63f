-- Runs: lists of states, one step for each choice.
use Rattle.std.specs.Prelude.{◌≡◌, ◌≢◌, ℕ, suc, false, List, [], ◌∷◌, ◌⊎◌, Some, None, slice_get, length, Any, IsTrue}
use Rattle.ir_model.specs.declared.function.Param.{Param}
use Rattle.ir_model.specs.declared.function.Instr.{Instr}
use Rattle.ir_model.specs.declared.function.Block.{Block}
use Rattle.ir_model.specs.declared.function.Function.{Function}
use Rattle.ir_memory.specs.Memory.{Memory, are_bytes}
use Rattle.ir_meaning.specs.declared.value.Value.{Value}
use Rattle.ir_meaning.specs.Phases as phase
use Rattle.ir_meaning.specs.declared.choice.Choice.{Choice}
use Rattle.ir_meaning.specs.Values.{fits}
use Rattle.ir_meaning.specs.State.{Registers, set, State}
use Rattle.ir_model.specs.Shapes.{block_of, entry, leading_phis, is_phi}
use Rattle.ir_meaning.specs.Step.{step}

-- The arguments fit: there is one for each parameter, of its type.
abbrev pub ArgsFit : Memory → List Param → List Value → Type 0
ArgsFit memory [] [] = Unit {0}
ArgsFit memory (p ∷ ps) (x ∷ xs) = IsTrue (fits memory p.kind x) × ArgsFit memory ps xs
ArgsFit memory [] (x ∷ xs) = ⊥
ArgsFit memory (p ∷ ps) [] = ⊥

-- A run may start with the arguments and the memory: they fit, and each byte is a number below 256, poison or
-- unwritten.
pub record MayStart (params : List Param) (args : List Value) (memory : Memory) : Type 0 where
  pub fit : ArgsFit memory params args
  pub bytes : IsTrue (are_bytes memory)

-- the registers with each parameter set to its argument
abbrev pub with_args : Registers → List Param → List Value → Registers
with_args registers (p ∷ ps) (x ∷ xs) = with_args (set registers (Some p.value) x) ps xs
with_args registers _ _ = registers

-- the state at the start: before the first instruction of the first block, with the arguments and the memory
abbrev pub start : Function → List Value → Memory → State
start f args memory = record {
  block = entry f.blocks;
  place = 0;
  previous = None;
  registers = with_args (λ v. None) f.params args;
  memory = memory;
  events = [];
  phase = phase.Running;
  trail = entry f.blocks ∷ [];
}

-- the state after a step for each of the choices
abbrev pub after : Function → State → List Choice → State
after f s [] = s
after f s (choice ∷ choices) = after f (step f choice s) choices

-- the run from a state: that state, and the one after each step
abbrev pub run : Function → State → List Choice → List State
run f s [] = s ∷ []
run f s (choice ∷ choices) = s ∷ run f (step f choice s) choices

-- a run of a function: fitting arguments, a memory of any contents, and any choices
pub record Run (f : Function) : Type 0 where
  pub args : List Value
  pub memory : Memory
  pub may : MayStart f.params args memory
  pub choices : List Choice

-- the state in which it ends. Each front of a run is a run, so what holds of the last state of each run holds of each
-- state of each run.
abbrev pub last : (f : Function) → Run f → State
last f r = after f (start f r.args r.memory) r.choices

-- The instruction gives its result to the register.
abbrev pub GivesTo : ℕ → Instr → Type 0
GivesTo v instr = instr.result ≡ Some (record { 0 = v })

-- The register was defined by the last step that led to the state: as a parameter at the start; as a phi, by the branch
-- that entered the block; or by the instruction before the place.
abbrev pub IsFresh : Function → State → ℕ → Type 0
IsFresh f s v = (s.phase ≡ phase.Running) × (block : Block) × (block_of f s.block ≡ Some block) × (
    ((s.previous ≡ None) × (s.place ≡ 0) × Any (λ p. p.value.0 ≡ v) f.params)
    ⊎ ((s.previous ≢ None) × (s.place ≡ length (leading_phis block.instrs))
    × Any (GivesTo v) (leading_phis block.instrs))
    ⊎ ((i : ℕ) × (instr : Instr) × (s.place ≡ suc i) × (slice_get block.instrs i ≡ Some instr)
    × (is_phi instr.op ≡ false) × GivesTo v instr))
