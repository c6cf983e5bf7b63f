-- The step that defines a value: the instruction that gives it, or a branch into the block of the phi that does.
use Rattle.std.proofs.Common.{◌≡◌, ℕ, suc, ◌==◌, true, false, List, [], ◌∷◌, ◌++◌, length, Option, Some}
use Rattle.std.proofs.Common.{option_and_then, slice_get, refl, sym, ap, ◌∙◌, subst, inl, inr, arith}
use Rattle.std.proofs.lemmas.Bool.{false≢true, eq-eqb}
use Rattle.std.proofs.lemmas.List.Folds.{list_any-from_Any}
use Rattle.std.proofs.lemmas.Option.{same_Some, slice_get_within}
use Rattle.scev_base.specs.declared.ids.BlockId.{BlockId}
use Rattle.ir_model.specs.declared.function.Param.{Param}
use Rattle.ir_model.specs.declared.function.Instr.{Instr}
use Rattle.ir_model.specs.declared.function.Block.{Block}
use Rattle.ir_model.specs.declared.function.Function.{Function}
use Rattle.ir_model.specs.declared.signature.Signatures.{Signatures}
use Rattle.ir_model.specs.Places.{is_param}
use Rattle.ir_model.specs.Shapes.{block_of, leading_phis, is_phi}
use Rattle.ir_model.specs.Walks.{Edge}
use Rattle.ir_model.specs.WellMade.{IsWellMade}
use Rattle.ir_rules.specs.Accepted.{IsAccepted}
use Rattle.ir_memory.specs.Memory.{Memory}
use Rattle.ir_meaning.specs.declared.value.Value.{Value}
use Rattle.ir_meaning.specs.declared.choice.Choice.{Choice}
use Rattle.ir_meaning.specs.Phases as phase
use Rattle.ir_meaning.specs.State.{Registers, Event, State, ended}
use Rattle.ir_meaning.specs.Operands.{chosen}
use Rattle.ir_meaning.specs.Effects.{Goes}
use Rattle.ir_meaning.specs.Step.{effect, with_phis, after_effect, behind_phis, instr_at, step}
use Rattle.ir_meaning.specs.Run.{Run, start, after, last, GivesTo, IsFresh}
use Rattle.ir_meaning.proofs.StepShape.{Stepped, stays, ends, goes_on, enters, stepped}
use Rattle.ir_meaning.proofs.RunInvariants.{after-append}
use Rattle.ir_meaning.proofs.ListPlaces.{some_at}
use Rattle.ir_meaning.proofs.LeadingPhis.{leading_at, behind_leading}
use Rattle.never_stuck.proofs.Sound.{Sound}
use Rattle.ssa_check.specs.declared.definitions.Definition.TheVariants.{At}
use Rattle.ssa_check.specs.Tables.{definition_of}
use Rattle.loop_regions.specs.Loops.{Loop}
use Rattle.loop_regions.proofs.EnteredEdges.{edge_of_entering}
use Rattle.scev_tree.specs.Tree.{Tree}
use Rattle.value_truth.specs.Available.{IsAvailable}
use Rattle.value_truth.specs.Truth.{Holds, Precedes, IsTrueAnew}
use Rattle.value_truth.proofs.Fresh.{fresh_available}
use Rattle.value_truth.proofs.HeldRegisters.{kept_in_run, stays_ended}
use Rattle.value_truth.proofs.KeptSteps.{same_place}
use Rattle.value_truth.proofs.FirstArrival.{place}
use Rattle.value_truth.proofs.Fresh.{gives_there}

-- a list is empty, or has a last one
data Ended {X : Type 0} (xs : List X) : Type 0 where
  empty : xs ≡ [] → Ended xs
  behind : (front : List X) (x : X) → xs ≡ front ++ x ∷ [] → Ended xs

one_more : {X : Type 0} (y : X) (xs : List X) → Ended xs → Ended (y ∷ xs)
one_more y xs (empty is) = behind [] y (ap (λ (zs : List _). y ∷ zs) is)
one_more y xs (behind front x is) = behind (y ∷ front) x (ap (λ (zs : List _). y ∷ zs) is)

ended_of : {X : Type 0} (xs : List X) → Ended xs
ended_of [] = empty refl
ended_of (x ∷ xs) = one_more x xs (ended_of xs)

module _ (signatures : Signatures) (f : Function) (made : IsWellMade f) (accepted : IsAccepted signatures f)
    (loops : List Loop) (v : ℕ) (tree : Tree) (d : BlockId) (i : ℕ) (block : Block) (instr : Instr)
    (is : definition_of f v ≡ At d i) (found : block_of f d.0 ≡ Some block)
    (stands : slice_get block.instrs i ≡ Some instr) where
  -- what gives the value is the instruction
  record IsOwn (b k : ℕ) (other : Instr) : Type 0 where
    block_is : b ≡ d.0
    place_is : k ≡ i
    instr_is : other ≡ instr

  own_giver : (b k : ℕ) (there : Block) (other : Instr) → block_of f b ≡ Some there
      → slice_get there.instrs k ≡ Some other → GivesTo v other → IsOwn b k other
  own_giver b k there other at stands_there gives =
      let same = same_place (record { 0 = b }) d k i
      (sym (gives_there signatures f accepted b k there other v at stands_there gives) ∙ is) in
      let one : there ≡ block = same_Some there block (sym at ∙ ap (λ (c : ℕ). block_of f c) same.0 ∙ found) in
      record {
        block_is = same.0;
        place_is = same.1;
        instr_is = same_Some other instr
            (sym stands_there ∙ ap (λ (one : Block). slice_get one.instrs k) one
            ∙ ap (λ (j : ℕ). slice_get block.instrs j) same.1 ∙ stands);
      }

  -- a fresh value is given by a leading phi of the block, or by the instruction before the place
  pub data Given (t : State) : Type 0 where
    by_phi : (k : ℕ) (there : Block) → block_of f t.block ≡ Some there → t.place ≡ length (leading_phis there.instrs)
        → slice_get (leading_phis there.instrs) k ≡ Some instr → t.block ≡ d.0 → Given t
    by_instr : t.place ≡ suc i → t.block ≡ d.0 → is_phi instr.op ≡ false → Given t

  pub fresh_given : (t : State) → IsFresh f t v → Given t
  fresh_given t (running, there, at, inl param) =
      let any = param.2 in
      let is_one : is_param f.params v ≡ true =
      list_any-from_Any (λ (p : Param). p.value.0 == v) f.params
      (any.0, any.1, any.2, any.3, eq-eqb any.1.value.0 v any.4) in
      absurd (false≢true (sym (place f v d i is).0 ∙ is_one))
  fresh_given t (running, there, at, inr (inl phi)) =
      let one = some_at (GivesTo v) (leading_phis there.instrs) phi.2 in
      let own = own_giver t.block one.0 there one.1 at (leading_at there.instrs one.1 one.0 one.2).0 one.3 in
      by_phi one.0 there at phi.1
      (one.2 ∙ ap (λ (other : Instr). Some other) own.instr_is) own.block_is
  fresh_given t (running, there, at, inr (inr by)) =
      let own = own_giver t.block by.0 there by.1 at by.3 by.5 in
      by_instr (by.2 ∙ ap suc own.place_is) own.block_is
      (ap (λ (other : Instr). is_phi other.op) (sym own.instr_is) ∙ by.4)

  module _ (r : Run f) where
    abbrev with_choices : List Choice → Run f
    with_choices choices = record { args = r.args; memory = r.memory; may = r.may; choices = choices }

    abbrev state : List Choice → State
    state choices = after f (start f r.args r.memory) choices

    module _ (front : List Choice) (choice : Choice) (is_longer : r.choices ≡ front ++ choice ∷ [])
        (earlier : (before : Run f) → Precedes f before r → IsAvailable f v (last f before).block (last f before).place
        → Holds loops (last f before) v tree) where
      next : last f r ≡ step f choice (state front)
      next =
          ap (λ (choices : List Choice). after f (start f r.args r.memory) choices) is_longer
          ∙ after-append f (start f r.args r.memory) front (choice ∷ [])

      held_before : IsAvailable f v (state front).block (state front).place → Holds loops (state front) v tree
      held_before = earlier (with_choices front) (choice, refl, refl, is_longer)

      abbrev s : State
      s = state front

      -- what the step defines is told by the steps of two kinds
      module _ (goes_case : (x : Option Value) (memory : Memory) (events : List Event) → s.phase ≡ phase.Running
          → s.block ≡ d.0 → s.place ≡ i → is_phi instr.op ≡ false → effect choice s instr.op ≡ Goes x memory events
          → Holds loops (after_effect instr.result s (Goes x memory events)) v tree)
          (enters_case : (registers : Registers) → s.phase ≡ phase.Running → Edge f s.block d.0 → is_phi instr.op ≡ true
          → with_phis s.registers (chosen choice) s.block (leading_phis block.instrs) s.registers ≡ Some registers
          → Holds loops (behind_phis d.0 block s (Some registers)) v tree) where
        module _ (running : s.phase ≡ phase.Running) (sound : Sound f s) where
          own_at : (other : Instr) → instr_at f s ≡ Some other → slice_get sound.block.instrs s.place ≡ Some other
          own_at other at =
              let instr_of : Option Block → Option Instr =
              option_and_then (λ (one : Block). slice_get one.instrs s.place) in
              sym (ap instr_of sound.at) ∙ at

          -- behind an instruction that goes on
          going : (other : Instr) (x : Option Value) (memory : Memory) (events : List Event)
              → instr_at f s ≡ Some other → effect choice s other.op ≡ Goes x memory events
              → Given (after_effect other.result s (Goes x memory events))
              → Holds loops (after_effect other.result s (Goes x memory events)) v tree
          going other x memory events at goes (by_phi k there at_block place_is lead block_is) =
              let one : there ≡ sound.block = same_Some there sound.block (sym at_block ∙ sound.at) in
              let early = sound.behind in
              let count : length (leading_phis there.instrs) ≡ length (leading_phis sound.block.instrs) =
              ap (λ (one : Block). length (leading_phis one.instrs)) one in
              absurd (omega (arith, place_is, count, early))
          going other x memory events at goes (by_instr place_is block_is no_phi) =
              let here : s.place ≡ i = omega (arith, place_is) in
              let one : sound.block ≡ block =
              same_Some sound.block block (sym sound.at ∙ ap (λ (c : ℕ). block_of f c) block_is ∙ found) in
              let same : other ≡ instr =
              same_Some other instr
              (sym (own_at other at) ∙ ap (λ (one : Block). slice_get one.instrs s.place) one
              ∙ ap (λ (j : ℕ). slice_get block.instrs j) here ∙ stands) in
              subst (λ (o : Instr). Holds loops (after_effect o.result s (Goes x memory events)) v tree) (sym same)
              (goes_case x memory events running block_is here no_phi
              (ap (λ (o : Instr). effect choice s o.op) (sym same) ∙ goes))

          -- behind a branch
          entering : (to : ℕ) (there : Block) (registers : Registers) → Edge f s.block to → block_of f to ≡ Some there
              → with_phis s.registers (chosen choice) s.block (leading_phis there.instrs) s.registers ≡ Some registers
              → Given (behind_phis to there s (Some registers))
              → Holds loops (behind_phis to there s (Some registers)) v tree
          entering to there registers edge at phis (by_phi k other at_block place_is lead block_is) =
              let one : there ≡ block =
              same_Some there block (sym at ∙ ap (λ (c : ℕ). block_of f c) block_is ∙ found) in
              let same : other ≡ there = same_Some other there (sym at_block ∙ at) in
              let phi = (leading_at other.instrs instr k lead).1 in
              let held =
              enters_case registers running (subst (λ (c : ℕ). Edge f s.block c) block_is edge) phi
              (subst (λ (b : Block). with_phis s.registers (chosen choice) s.block (leading_phis b.instrs) s.registers
              ≡ Some registers) one phis) in
              subst (λ (c : ℕ). Holds loops (behind_phis c there s (Some registers)) v tree) (sym block_is)
              (subst (λ (b : Block). Holds loops (behind_phis d.0 b s (Some registers)) v tree) (sym one) held)
          entering to there registers edge at phis (by_instr place_is block_is no_phi) =
              let one : there ≡ block =
              same_Some there block (sym at ∙ ap (λ (c : ℕ). block_of f c) block_is ∙ found) in
              let late = behind_leading block.instrs instr i stands no_phi in
              let count : length (leading_phis there.instrs) ≡ length (leading_phis block.instrs) =
              ap (λ (b : Block). length (leading_phis b.instrs)) one in
              absurd (omega (arith, place_is, late, count))

          by_step : (t : State) → Stepped f choice s t → IsFresh f t v → Holds loops t v tree
          by_step t (stays e) fresh =
              subst (λ (u : State). Holds loops u v tree) (sym e)
              (held_before (fresh_available signatures f accepted s v (subst (λ (u : State). IsFresh f u v) e fresh)))
          by_step t (ends how e) fresh =
              subst (λ (u : State). Holds loops u v tree) (sym e)
              (held_before
              (fresh_available signatures f accepted (ended how s) v (subst (λ (u : State). IsFresh f u v) e fresh)))
          by_step t (goes_on other x memory events at goes_on' goes e) fresh =
              subst (λ (u : State). Holds loops u v tree) (sym e)
              (going other x memory events at goes (fresh_given _ (subst (λ (u : State). IsFresh f u v) e fresh)))
          by_step t (enters other to there registers at last leads found_to phis e) fresh =
              subst (λ (u : State). Holds loops u v tree) (sym e)
              (entering to there registers (edge_of_entering f (chosen choice) s other to at leads) found_to phis
              (fresh_given _ (subst (λ (u : State). IsFresh f u v) e fresh)))

        behind_step : IsFresh f (last f r) v → Holds loops (last f r) v tree
        behind_step fresh =
            let kept = kept_in_run signatures f made accepted r.args r.memory r.may front in
            let there = subst (λ (u : State). IsFresh f u v) next fresh in
            subst (λ (u : State). Holds loops u v tree) (sym next)
            (elim kept.1 [
              | inl (sound, running) ↦ by_step running sound (step f choice s) (stepped f choice s) there
              | inr over ↦
                  let same = stays_ended f choice s (λ runs. over.3 (sym over.1 ∙ runs)) in
                  let still = subst (λ (u : State). IsFresh f u v) same there in
                  absurd (over.3 (sym over.1 ∙ still.0))
            ])

  -- no value that an instruction defines is fresh at the start
  at_the_start : (r : Run f) → r.choices ≡ [] → IsFresh f (last f r) v → ⊥
  at_the_start r none fresh =
      let first : (last f r).place ≡ 0 =
      ap (λ (choices : List Choice). (after f (start f r.args r.memory) choices).place) none in
      no_start (last f r) first (fresh_given (last f r) fresh)
    where
      no_start : (t : State) → t.place ≡ 0 → Given t → ⊥
      no_start t first (by_phi k there at place_is lead block_is) =
          let within = slice_get_within (leading_phis there.instrs) k instr lead in
          omega (arith, first, place_is, within)
      no_start t first (by_instr place_is block_is no_phi) = omega (arith, first, place_is)

  module _ (goes_case : (r : Run f) (choice : Choice) (x : Option Value) (memory : Memory) (events : List Event)
      → (last f r).phase ≡ phase.Running → (last f r).block ≡ d.0 → (last f r).place ≡ i
      → is_phi instr.op ≡ false → effect choice (last f r) instr.op ≡ Goes x memory events
      → Holds loops (after_effect instr.result (last f r) (Goes x memory events)) v tree)
      (enters_case : (r : Run f) (choice : Choice) (registers : Registers) → (last f r).phase ≡ phase.Running
      → Edge f (last f r).block d.0 → is_phi instr.op ≡ true
      → with_phis (last f r).registers (chosen choice) (last f r).block (leading_phis block.instrs)
      (last f r).registers ≡ Some registers
      → (IsAvailable f v (last f r).block (last f r).place → Holds loops (last f r) v tree)
      → Holds loops (behind_phis d.0 block (last f r) (Some registers)) v tree) where
    pub true_anew : IsTrueAnew f loops v tree
    true_anew r fresh earlier =
        elim (ended_of r.choices) [
          | empty none ↦ absurd (at_the_start r none fresh)
          | behind front choice is_longer ↦
              behind_step r front choice is_longer earlier
              (λ x memory events. goes_case (with_choices r front) choice x memory events)
              (λ registers running edge phi phis.
              enters_case (with_choices r front) choice registers running edge phi phis
              (held_before r front choice is_longer earlier)) fresh
        ]
