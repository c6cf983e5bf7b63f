-- A function may stand for itself.
use Rattle.std.specs.Prelude.{◌≡◌, ◌≢◌, ℕ, ◌==◌, List, [], ◌∷◌, true, Option, Some, None, is_some, find, refl}
use Rattle.std.proofs.Common.{ap, sym, ◌∙◌, inl, inr}
use Rattle.std.proofs.lemmas.Bool.{eq-eqb, cond-true}
use Rattle.std.proofs.lemmas.Option.{none-some}
use Rattle.ir_model.specs.declared.function.Block.{Block}
use Rattle.ir_model.specs.declared.function.Function.{Function}
use Rattle.ir_memory.specs.Memory.{Memory}
use Rattle.ir_meaning.specs.declared.value.Value.{Value}
use Rattle.ir_meaning.specs.Phases.{Phase}
use Rattle.ir_meaning.specs.Phases as phase
use Rattle.ir_meaning.specs.declared.choice.Choice.{Choice}
use Rattle.ir_meaning.specs.State.{State, Event}
use Rattle.ir_model.specs.Shapes.{block_of}
use Rattle.ir_model.specs.Shapes.{entry}
use Rattle.ir_meaning.specs.Run.{start, after}
use Rattle.ir_meaning.specs.Refinement.{RefinesValue, RefinesByte, RefinesList, RefinesMemory, RefinesEvent}
use Rattle.ir_meaning.specs.Refinement.{RefinesAnswer, RefinesPhase, RefinesArgument, RefinesCall, common, Outdoes}
use Rattle.ir_meaning.specs.Refinement.{Refines, JumpsBack, args_of}
use Rattle.ir_meaning.proofs.StepShape.{Stepped, stays, ends, goes_on, enters}
use Rattle.ir_meaning.proofs.RunInvariants.{after_keeps}

list_same : {A : Type 0} (R : A → A → Type 0) → ((x : A) → R x x) → (xs : List A) → RefinesList R xs xs
list_same R same [] = tt
list_same R same (x ∷ xs) = (same x, list_same R same xs)

memory_same : (memory : Memory) → RefinesMemory memory memory
memory_same memory =
    list_same (RefinesList RefinesByte) (list_same RefinesByte (λ byte. inr refl)) memory

event_same : (event : Event) → RefinesEvent event event
event_same event =
    (refl, refl, list_same RefinesValue (λ x. inr refl) event.args, memory_same event.before, memory_same event.after)

answer_same : (o : Option Value) → RefinesAnswer o o
answer_same None = tt
answer_same (Some x) = inr refl

phase_same : (how : Phase) → RefinesPhase how how
phase_same phase.Running = tt
phase_same (phase.Returned x) = answer_same x
phase_same phase.Undefined = tt
phase_same phase.Stopped = tt
phase_same phase.Stuck = tt

argument_same : (o : Option Value) → RefinesArgument o o
argument_same None = tt
argument_same (Some x) = inr refl

-- Each block of a trail is one of the function.
abbrev pub InFunction : Function → List ℕ → Type 0
InFunction f [] = Unit {0}
InFunction f (b ∷ trail) = (is_some (block_of f b) ≡ true) × InFunction f trail

all_common : (f : Function) (trail : List ℕ) → InFunction f trail → common f trail ≡ trail
all_common f [] all = refl
all_common f (b ∷ trail) all =
    cond-true (is_some (block_of f b)) (b ∷ common f trail) (common f trail) all.0 ∙ ap (λ (t : List ℕ). b ∷ t) (all_common f trail all.1)

trail_in : (f : Function) (choice : Choice) (s t : State) → Stepped f choice s t → InFunction f s.trail
    → InFunction f t.trail
trail_in f choice s t (stays e) all = rw e all
trail_in f choice s t (ends how e) all = rw e all
trail_in f choice s t (goes_on instr x memory events at other goes e) all = rw e all
trail_in f choice s t (enters instr b block registers at last leads found phis e) all = rw e (rw found refl, all)

entry_in : (f : Function) (blocks : List Block) → blocks ≢ []
    → is_some (find (λ block. block.id.0 == entry blocks) blocks) ≡ true
entry_in f [] some = absurd (some refl)
entry_in f (block ∷ blocks) some =
    ap is_some (cond-true (block.id.0 == block.id.0) (Some block) (find (λ one. one.id.0 == block.id.0) blocks) (eq-eqb block.id.0 block.id.0 refl))

-- so each block that a run enters is one of the function
pub run_in : (f : Function) (args : List Value) (memory : Memory) (choices : List Choice) → f.blocks ≢ []
    → InFunction f (after f (start f args memory) choices).trail
run_in f args memory choices some =
    after_keeps f (λ (s : State). InFunction f s.trail) (trail_in f) (start f args memory) choices
    (entry_in f f.blocks some, tt)

call_same : (f : Function) (s : State) → RefinesCall f f s s
call_same f s callee operands at =
    (operands, at, λ n. list_same RefinesArgument argument_same (args_of s.registers n operands))

outdoes_same : (f : Function) (s : State) → InFunction f s.trail → Outdoes f f s s
outdoes_same f s all =
    record {
      blocks = all_common f s.trail all;
      events = list_same RefinesEvent event_same s.events;
      memory = memory_same s.memory;
      phases = phase_same s.phase;
      call = call_same f s;
    }

jumps_back : (f : Function) → JumpsBack f f
jumps_back f b block there none = absurd (none-some block (sym none ∙ there))

pub refines_itself : (f : Function) → f.blocks ≢ [] → Refines f f
refines_itself f some =
    record {
      params = refl;
      runs = λ args memory may choices.
          (choices, inl (outdoes_same f (after f (start f args memory) choices) (run_in f args memory choices some)));
      added = jumps_back f;
    }
