-- Where a function may stand for a second one and that for a third one, the first may stand for the third.
use Rattle.std.specs.Prelude.{◌≡◌, ◌≢◌, ℕ, zero, suc, List, [], ◌∷◌, ◌⊎◌, Bool, true, false, cond, Option, Some, None}
use Rattle.std.specs.Prelude.{is_some, take, refl}
use Rattle.std.proofs.Common.{ap, sym, subst, ◌∙◌, inl, inr, arith}
use Rattle.std.proofs.lemmas.Bool.{false≢true, cases_lt}
use Rattle.std.proofs.lemmas.List.{take-take, take_all, length-take}
use Rattle.ir_model.specs.declared.function.Function.{Function}
use Rattle.ir_model.specs.Shapes.{block_of}
use Rattle.ir_memory.specs.declared.byte.Byte.{Byte}
use Rattle.ir_memory.specs.Memory.{Memory}
use Rattle.ir_meaning.specs.declared.value.Value.{Value}
use Rattle.ir_meaning.specs.Phases.{Phase}
use Rattle.ir_meaning.specs.Phases as phase
use Rattle.ir_meaning.specs.State.{State, Event}
use Rattle.ir_meaning.specs.Run.{start, after}
use Rattle.ir_meaning.specs.Refinement.{RefinesValue, RefinesByte, RefinesList, RefinesMemory, RefinesEvent}
use Rattle.ir_meaning.specs.Refinement.{RefinesAnswer, RefinesPhase, RefinesArgument, RefinesCall, common, Outdoes}
use Rattle.ir_meaning.specs.Refinement.{ExcusedBy, Refines, JumpsBack, HasCommonBlocks, args_of}
use Rattle.ir_meaning.proofs.RefinementLaws.{InFunction, run_in}

-- ---- what refines something that refines a third refines the third

list_joins : {A : Type 0} (R : A → A → Type 0) → ((x y z : A) → R x y → R y z → R x z) → (xs ys zs : List A)
    → RefinesList R xs ys → RefinesList R ys zs → RefinesList R xs zs
list_joins R joins [] [] zs p q = q
list_joins R joins [] (y ∷ ys) zs p q = absurd p
list_joins R joins (x ∷ xs) [] zs p q = absurd p
list_joins R joins (x ∷ xs) (y ∷ ys) [] p q = absurd q
list_joins R joins (x ∷ xs) (y ∷ ys) (z ∷ zs) p q =
    (joins x y z p.0 q.0, list_joins R joins xs ys zs p.1 q.1)

value_joins : (x y z : Value) → RefinesValue x y → RefinesValue y z → RefinesValue x z
value_joins x y z p (inl poison) = inl poison
value_joins x y z p (inr same) = subst (RefinesValue x) same p

byte_joins : (x y z : Byte) → RefinesByte x y → RefinesByte y z → RefinesByte x z
byte_joins x y z p (inl poison) = inl poison
byte_joins x y z p (inr same) = subst (RefinesByte x) same p

memory_joins : (x y z : Memory) → RefinesMemory x y → RefinesMemory y z → RefinesMemory x z
memory_joins = list_joins (RefinesList RefinesByte) (list_joins RefinesByte byte_joins)

event_joins : (x y z : Event) → RefinesEvent x y → RefinesEvent y z → RefinesEvent x z
event_joins x y z p q = (
  p.0 ∙ q.0,
  p.1 ∙ q.1,
  list_joins RefinesValue value_joins x.args y.args z.args p.2 q.2,
  memory_joins x.before y.before z.before p.3 q.3,
  memory_joins x.after y.after z.after p.4 q.4,
)

events_join : (xs ys zs : List Event)
    → RefinesList RefinesEvent xs ys → RefinesList RefinesEvent ys zs → RefinesList RefinesEvent xs zs
events_join = list_joins RefinesEvent event_joins

answer_joins : (x y z : Option Value) → RefinesAnswer x y → RefinesAnswer y z → RefinesAnswer x z
answer_joins None None z p q = q
answer_joins (Some x) (Some y) None p q = absurd q
answer_joins (Some x) (Some y) (Some z) p q = value_joins x y z p q
answer_joins _ _ z p q = absurd p

phase_joins : (x y z : Phase) → RefinesPhase x y → RefinesPhase y z → RefinesPhase x z
phase_joins phase.Running phase.Running z p q = q
phase_joins (phase.Returned x) (phase.Returned y) (phase.Returned z) p q = answer_joins x y z p q
phase_joins (phase.Returned x) (phase.Returned y) _ p q = absurd q
phase_joins phase.Undefined phase.Undefined z p q = q
phase_joins phase.Stopped phase.Stopped z p q = q
phase_joins phase.Stuck phase.Stuck z p q = q
phase_joins _ _ z p q = absurd p

-- what an undefined run refines is undefined
undefined_joins : (x : Phase) → RefinesPhase phase.Undefined x → x ≡ phase.Undefined
undefined_joins phase.Undefined p = refl
undefined_joins _ p = absurd p

argument_joins : (x y z : Option Value) → RefinesArgument x y → RefinesArgument y z → RefinesArgument x z
argument_joins x y None p q = tt
argument_joins x None (Some z) p q = absurd q
argument_joins None (Some y) (Some z) p q = absurd p
argument_joins (Some x) (Some y) (Some z) p q = value_joins x y z p q

call_joins : (f g h : Function) (x y z : State) → RefinesCall f g x y → RefinesCall g h y z → RefinesCall f h x z
call_joins f g h x y z p q callee operands at =
    let one = p callee operands at in
    let two = q callee one.0 one.1 in
    let args = λ (n : ℕ). list_joins RefinesArgument argument_joins (args_of x.registers n operands)
    (args_of y.registers n one.0) (args_of z.registers n two.0) (one.2 n) (two.2 n) in
    (two.0, two.1, args)

-- ---- fronts of lists

front_refines : {A : Type 0} (R : A → A → Type 0) (n : ℕ) (xs ys : List A)
    → RefinesList R xs ys → RefinesList R (take n xs) (take n ys)
front_refines R zero xs ys p = tt
front_refines R (suc n) [] [] p = tt
front_refines R (suc n) [] (y ∷ ys) p = absurd p
front_refines R (suc n) (x ∷ xs) [] p = absurd p
front_refines R (suc n) (x ∷ xs) (y ∷ ys) p = (p.0, front_refines R n xs ys p.1)

-- a front of a front is a front
front_of_front : {A : Type 0} (m n : ℕ) (xs : List A) → (k : ℕ) × (take m (take n xs) ≡ take k xs)
front_of_front m n xs =
    elim (cases_lt n m) [
      | inl less ↦ (n, take_all m (take n xs) (omega (arith, length-take n xs)))
      | inr most ↦ (m, take-take m n xs most)
    ]

-- ---- the blocks that functions have in common

-- where the second function has a block if the third one has it
block_joins : (h : Function) (b : ℕ) (kept trail : List ℕ) (second third : Bool)
    → (third ≡ true → second ≡ true) → is_some (block_of h b) ≡ third → common h kept ≡ common h trail
    → common h (cond second (b ∷ kept) kept) ≡ cond third (b ∷ common h trail) (common h trail)
block_joins h b kept trail true third has is rest = rw is (ap (λ (t : List ℕ). cond third (b ∷ t) t) rest)
block_joins h b kept trail false true has is rest = absurd (false≢true (has refl))
block_joins h b kept trail false false has is rest = rest

common_joins : (f g h : Function) (trail : List ℕ) → HasCommonBlocks f g h → InFunction f trail
    → common h (common g trail) ≡ common h trail
common_joins f g h [] has all = refl
common_joins f g h (b ∷ trail) has all =
    block_joins h b (common g trail) trail (is_some (block_of g b)) (is_some (block_of h b)) (has b all.0) refl
    (common_joins f g h trail has all.1)

-- ---- runs: a state of each function

module _ (f g h : Function) (x y z : State) where
  both_outdo : HasCommonBlocks f g h → InFunction f x.trail → Outdoes f g x y → Outdoes g h y z → Outdoes f h x z
  both_outdo has all p q =
      record {
        blocks = sym (common_joins f g h x.trail has all) ∙ ap (common h) p.blocks ∙ q.blocks;
        events = events_join x.events y.events z.events p.events q.events;
        memory = memory_joins x.memory y.memory z.memory p.memory q.memory;
        phases = phase_joins x.phase y.phase z.phase p.phases q.phases;
        call = call_joins f g h x y z p.call q.call;
      }

  -- A front of the first one's events refines a front of the second one's, of the same length.
  then_excused : Outdoes f g x y → ExcusedBy y z → ExcusedBy x z
  then_excused p q =
      let fronts = front_refines RefinesEvent q.front x.events y.events p.events in
      record {
        undefined = q.undefined;
        front = q.front;
        events = events_join (take q.front x.events) (take q.front y.events) z.events fronts q.events;
      }

  -- The second one is undefined, so the third one is.
  excused_before : ExcusedBy x y → Outdoes g h y z → ExcusedBy x z
  excused_before p q =
      let phases = subst (λ (how : Phase). RefinesPhase how z.phase) p.undefined q.phases in
      record {
        undefined = undefined_joins z.phase phases;
        front = p.front;
        events = events_join (take p.front x.events) y.events z.events p.events q.events;
      }

  both_excused : ExcusedBy x y → ExcusedBy y z → ExcusedBy x z
  both_excused p q =
      let before = take p.front x.events in
      let fronts = front_refines RefinesEvent q.front before y.events p.events in
      let events = events_join (take q.front before) (take q.front y.events) z.events fronts q.events in
      let front = front_of_front q.front p.front x.events in
      record {
        undefined = q.undefined;
        front = front.0;
        events = subst (λ (these : List Event). RefinesList RefinesEvent these z.events) front.1 events;
      }

  run_joins : HasCommonBlocks f g h → InFunction f x.trail → Outdoes f g x y ⊎ ExcusedBy x y
      → Outdoes g h y z ⊎ ExcusedBy y z → Outdoes f h x z ⊎ ExcusedBy x z
  run_joins has all (inl p) (inl q) = inl (both_outdo has all p q)
  run_joins has all (inl p) (inr q) = inr (then_excused p q)
  run_joins has all (inr p) (inl q) = inr (excused_before p q)
  run_joins has all (inr p) (inr q) = inr (both_excused p q)

pub refinement_joins : (f g h : Function) → f.blocks ≢ [] → HasCommonBlocks f g h → JumpsBack f h
    → Refines f g → Refines g h → Refines f h
refinement_joins f g h some has back p q =
    record {
      params = p.params ∙ q.params;
      runs = λ args memory may choices.
          let one = p.runs args memory (rw q.params may) choices in
          let two = q.runs args memory may one.0 in
          let x = after f (start f args memory) choices in
          let y = after g (start g args memory) one.0 in
          let z = after h (start h args memory) two.0 in
          (two.0, run_joins f g h x y z has (run_in f args memory choices some) one.1 two.1);
      added = back;
    }
