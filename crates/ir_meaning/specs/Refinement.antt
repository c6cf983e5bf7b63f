-- When one function may stand for another.
use Rattle.std.specs.Prelude.{◌≡◌, ℕ, List, [], ◌∷◌, ◌++◌, ◌⊎◌, true, cond, Option, Some, None, option_and_then, filter}
use Rattle.std.specs.Prelude.{map, is_some, take}
use Rattle.scev_base.specs.declared.ids.BlockId.{BlockId}
use Rattle.ir_model.specs.declared.op.Op.{Op}
use Rattle.ir_model.specs.declared.op.Op.TheVariants.{Call, Jump}
use Rattle.ir_model.specs.declared.op.TypedOperand.{TypedOperand}
use Rattle.ir_model.specs.declared.function.Instr.{Instr}
use Rattle.ir_model.specs.declared.function.Block.{Block}
use Rattle.ir_model.specs.declared.function.Function.{Function}
use Rattle.ir_memory.specs.declared.byte.Byte.{Byte}
use Rattle.ir_memory.specs.declared.byte.Byte.TheVariants as byte
use Rattle.ir_memory.specs.Memory.{Memory}
use Rattle.ir_meaning.specs.declared.value.Value.{Value}
use Rattle.ir_meaning.specs.declared.value.Value.TheVariants as value
use Rattle.ir_meaning.specs.Phases.{Phase}
use Rattle.ir_meaning.specs.Phases as phase
use Rattle.ir_meaning.specs.State.{State, Event, Registers, is_running}
use Rattle.ir_meaning.specs.Operands.{operand_value}
use Rattle.ir_model.specs.Callees.{is_min_max}
use Rattle.ir_model.specs.Shapes.{block_of}
use Rattle.ir_meaning.specs.Step.{instr_at}
use Rattle.ir_meaning.specs.declared.choice.Choice.{Choice}
use Rattle.ir_meaning.specs.Run.{MayStart, start, after}

-- A value, and a byte, refines one that is poison, and one that is equal.
abbrev pub RefinesValue : Value → Value → Type 0
RefinesValue out in_ = (in_ ≡ value.Poison) ⊎ (out ≡ in_)

abbrev pub RefinesByte : Byte → Byte → Type 0
RefinesByte out in_ = (in_ ≡ byte.Poison) ⊎ (out ≡ in_)

-- A list refines one of the same length, item by item.
abbrev pub RefinesList : {A : Type 0} → (A → A → Type 0) → List A → List A → Type 0
RefinesList Refines [] [] = Unit {0}
RefinesList Refines (x ∷ xs) (y ∷ ys) = Refines x y × RefinesList Refines xs ys
RefinesList Refines [] (y ∷ ys) = ⊥
RefinesList Refines (x ∷ xs) [] = ⊥

abbrev pub RefinesMemory : Memory → Memory → Type 0
RefinesMemory = RefinesList (RefinesList RefinesByte)

-- An event refines one of the same callee and answer whose arguments and contents it refines.
abbrev pub RefinesEvent : Event → Event → Type 0
RefinesEvent out in_ = (out.callee ≡ in_.callee) × (out.answer ≡ in_.answer)
    × RefinesList RefinesValue out.args in_.args
    × RefinesMemory out.before in_.before × RefinesMemory out.after in_.after

-- Two phases are of one kind, and what was returned refines.
abbrev pub RefinesAnswer : Option Value → Option Value → Type 0
RefinesAnswer None None = Unit {0}
RefinesAnswer (Some x) (Some y) = RefinesValue x y
RefinesAnswer None (Some y) = ⊥
RefinesAnswer (Some x) None = ⊥

abbrev pub RefinesPhase : Phase → Phase → Type 0
RefinesPhase phase.Running phase.Running = Unit {0}
RefinesPhase (phase.Returned x) (phase.Returned y) = RefinesAnswer x y
RefinesPhase phase.Undefined phase.Undefined = Unit {0}
RefinesPhase phase.Stopped phase.Stopped = Unit {0}
RefinesPhase phase.Stuck phase.Stuck = Unit {0}
RefinesPhase _ _ = ⊥

-- the call of the outside at which a running state stands: the callee, and the operands; the outside sees no call of a
-- minimum or a maximum
abbrev pub call_of : Op → Option (List ℕ × List TypedOperand)
call_of (Call ret callee args) = cond (is_min_max callee) None (Some (callee, args))
call_of _ = None

abbrev pub call_at : Function → State → Option (List ℕ × List TypedOperand)
call_at f s = cond (is_running s.phase) (option_and_then (λ instr. call_of instr.op) (instr_at f s)) None

-- the arguments of a call, with a chosen number
abbrev pub args_of : Registers → ℕ → List TypedOperand → List (Option Value)
args_of registers n operands = map (λ typed. operand_value registers n typed.kind typed.value) operands

abbrev pub RefinesArgument : Option Value → Option Value → Type 0
RefinesArgument out None = Unit {0}
RefinesArgument (Some x) (Some y) = RefinesValue x y
RefinesArgument None (Some y) = ⊥

-- Where one state stands at a call, the other stands at one of the same callee, and under each choice its arguments are
-- refined.
abbrev pub RefinesCall : Function → Function → State → State → Type 0
RefinesCall f g out in_ = (callee : List ℕ) (operands : List TypedOperand) → call_at f out ≡ Some (callee, operands)
    → (others : List TypedOperand) × (call_at g in_ ≡ Some (callee, others))
    × ((n : ℕ) → RefinesList RefinesArgument (args_of out.registers n operands) (args_of in_.registers n others))

-- the trail of a function's run without the blocks that another function doesn't have
abbrev pub common : Function → List ℕ → List ℕ
common g trail = filter (λ b. is_some (block_of g b)) trail

-- A state of the one function outdoes a state of the other: they have entered the same blocks in the same order, added
-- ones left out, and events, memory, phases, what was returned and the call at which they stand refine.
pub record Outdoes (f g : Function) (out in_ : State) : Type 0 where
  pub blocks : common g out.trail ≡ in_.trail
  pub events : RefinesList RefinesEvent out.events in_.events
  pub memory : RefinesMemory out.memory in_.memory
  pub phases : RefinesPhase out.phase in_.phase
  pub call : RefinesCall f g out in_

-- The run of the other function is undefined, and its events are refined by a front of the events.
pub record ExcusedBy (out in_ : State) : Type 0 where
  pub undefined : in_.phase ≡ phase.Undefined
  pub front : ℕ
  pub events : RefinesList RefinesEvent (take front out.events) in_.events

-- Each added block ends in a jump to a block of the other function.
abbrev pub JumpsBack : Function → Function → Type 0
JumpsBack f g = (b : ℕ) (block : Block) → block_of f b ≡ Some block → block_of g b ≡ None
    → (front : List Instr) × (jump : Instr) × (to : BlockId) × (block.instrs ≡ front ++ jump ∷ [])
    × (jump.op ≡ Jump to) × (is_some (block_of g to.0) ≡ true)

-- The first function may stand for the second: they have the same parameters, and for each run of the first there is
-- one of the second from the same start that ends in a state that the first one's outdoes, or that is undefined after
-- events with which those of the first begin.
pub record Refines (f g : Function) : Type 0 where
  pub params : f.params ≡ g.params
  pub runs : (args : List Value) (memory : Memory) → MayStart g.params args memory → (choices : List Choice)
      → (others : List Choice)
      × (Outdoes f g (after f (start f args memory) choices) (after g (start g args memory) others)
      ⊎ ExcusedBy (after f (start f args memory) choices) (after g (start g args memory) others))
  pub added : JumpsBack f g

-- A function has each block that two others have in common.
abbrev pub HasCommonBlocks : Function → Function → Function → Type 0
HasCommonBlocks f g h = (b : ℕ) → is_some (block_of f b) ≡ true → is_some (block_of h b) ≡ true
    → is_some (block_of g b) ≡ true
