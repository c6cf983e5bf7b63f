-- What a machine computes, does, and where it goes, as in the definitions of a step.
use Rattle.std.specs.Prelude.{◌≡◌, ℕ, ◌+◌, ◌-◌, ◌*◌, ◌^◌, ◌%◌, min, List, [], ◌∷◌, length, Option, Some, None}
use Rattle.std.specs.Prelude.{option_map, sum_by}
use Rattle.ir_model.specs.declared.op.TypedOperand.{TypedOperand}
use Rattle.ir_memory.specs.Memory.{Memory}
use Rattle.ir_meaning.specs.declared.value.Value.{Value}
use Rattle.ir_meaning.specs.declared.value.Value.TheVariants as value
use Rattle.ir_meaning.specs.Phases as phase
use Rattle.ir_meaning.specs.State.{Registers, Event}
use Rattle.ir_meaning.specs.Effects.{Effect, Goes, Ends}
use Rattle.ir_meaning.specs.Accesses.{index_values, parts_of}
use Rattle.ir_meaning.specs.Step.{Computed, Gives, Fails, Way, Enters, Leaves}
use Rattle.ir_machine.specs.Phases.{phase_of}
use Rattle.ir_machine.specs.declared.effect.Computed.{Computed as Found}
use Rattle.ir_machine.specs.declared.effect.Computed.TheVariants as found
use Rattle.ir_machine.specs.declared.effect.Done.{Done}
use Rattle.ir_machine.specs.declared.effect.Done.TheVariants as done
use Rattle.ir_machine.specs.declared.effect.Way.{Way as FoundWay}
use Rattle.ir_machine.specs.declared.effect.Way.TheVariants as found_way
use Rattle.ir_machine.specs.declared.addresses.Moved.{Moved}
use Rattle.ir_machine.specs.declared.addresses.Moved.TheVariants as moved

-- ---- what is computed

abbrev pub meant : Found → Computed
meant (found.Gives x) = Gives x
meant found.Undefined = Fails phase.Undefined
meant found.Stuck = Fails phase.Stuck

-- the same where it is read from memory, which stays
abbrev pub meant_effect : Found → Memory → Effect
meant_effect (found.Gives x) memory = Goes (Some x) memory []
meant_effect found.Undefined memory = Ends phase.Undefined
meant_effect found.Stuck memory = Ends phase.Stuck

-- ---- what is done

-- What was done is the effect: the memory is the one after it, and so many more events are counted, up to 2^64 - 1.
abbrev pub Does : Done → Memory → ℕ → ℕ → Effect → Type 0
Does (done.Goes x) memory old new e =
    (events : List Event) × (e ≡ Goes x memory events) × (new ≡ min (old + length events) (2 ^ 64 - 1))
Does (done.Ends how) memory old new e = (e ≡ Ends (phase_of how)) × (new ≡ old)
Does done.Stuck memory old new e = (e ≡ Ends phase.Stuck) × (new ≡ old)

-- Memory changes only where control goes on.
abbrev pub KeepsUnlessGone : Done → Memory → Memory → Type 0
KeepsUnlessGone (done.Goes x) old new = Unit {0}
KeepsUnlessGone _ old new = new ≡ old

-- What was done is the effect of a call, which adds one event where it returns.
abbrev pub IsCallOf : Done → Memory → Effect → Type 0
IsCallOf (done.Goes x) memory e = (event : Event) × (e ≡ Goes x memory (event ∷ []))
IsCallOf (done.Ends how) memory e = e ≡ Ends (phase_of how)
IsCallOf done.Stuck memory e = e ≡ Ends phase.Stuck

-- ---- where a terminator leads

abbrev pub meant_way : FoundWay → Way
meant_way (found_way.Enters to) = Enters to.0
meant_way (found_way.Returns answer) = Leaves (phase.Returned answer)
meant_way found_way.Undefined = Leaves phase.Undefined
meant_way found_way.Stuck = Leaves phase.Stuck

-- ---- how far indices move an address

-- by how many bytes, modulo 2^64; none where one is poison, and none at all where one has no value
abbrev pub bytes_moved : List (ℕ × ℕ) → ℕ
bytes_moved parts = sum_by (λ part. part.0 * part.1) parts % 2 ^ 64

abbrev pub moved_by : Registers → ℕ → List ℕ → List TypedOperand → Option (Option ℕ)
moved_by registers n steps indices =
    option_map (λ xs. option_map bytes_moved (parts_of steps xs)) (index_values registers n indices)

-- the same of an index and those behind it, with the bytes that it steps, if any
abbrev pub moved_more : Option Value → Option ℕ → Option (Option ℕ) → Option (Option ℕ)
moved_more None step behind = None
moved_more (Some x) step None = None
moved_more (Some x) None (Some bytes) = Some bytes
moved_more (Some (value.Number k)) (Some step) (Some bytes) =
    Some (option_map (λ bytes. (bytes + k * step) % 2 ^ 64) bytes)
moved_more (Some x) (Some step) (Some bytes) = Some None

abbrev pub meant_move : Moved → Option (Option ℕ)
meant_move moved.Stuck = None
meant_move moved.Poison = Some None
meant_move (moved.By bytes) = Some (Some bytes)
