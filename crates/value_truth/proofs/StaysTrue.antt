-- What is true of a value just after each definition is true of it in each state in which it is available.
use Rattle.std.proofs.Common.{◌≡◌, ◌⊎◌, ℕ, suc, ◌+◌, ◌<◌, ◌==◌, Bool, true, false, if◌then◌else◌, List, [], ◌∷◌, ◌++◌}
use Rattle.std.proofs.Common.{length, Option, Some, None, option_and_then, slice_get, refl, sym, ap, ◌∙◌, subst, inl}
use Rattle.std.proofs.Common.{inr}
use Rattle.std.proofs.Common.{arith}
use Rattle.std.proofs.lemmas.Bool.{cases_eq, cases_lt, false≢true, eqb-true}
use Rattle.std.proofs.lemmas.Option.{same_Some, none-some, slice_get_within, get_or_from_slice_get}
use Rattle.std.proofs.lemmas.List.{append_assoc, append-nil}
use Rattle.std.proofs.lemmas.List.Folds.{Any-from_list_any}
use Rattle.scev_base.specs.declared.ids.BlockId.{BlockId}
use Rattle.scev_base.specs.declared.ids.ValueId.{ValueId}
use Rattle.ir_model.specs.declared.op.Op.{Op}
use Rattle.ir_model.specs.declared.op.Op.TheVariants.{Store}
use Rattle.ir_model.specs.declared.function.Param.{Param}
use Rattle.ir_model.specs.declared.function.Instr.{Instr}
use Rattle.ir_model.specs.declared.function.Block.{Block}
use Rattle.ir_model.specs.declared.function.Function.{Function}
use Rattle.ir_model.specs.declared.signature.Signatures.{Signatures}
use Rattle.ir_model.specs.Places.{is_param, given_at}
use Rattle.ir_model.specs.Shapes.{block_of, entry, leading_phis, is_terminator, MayHaveResult}
use Rattle.ir_model.specs.Walks.{Trail, Edge}
use Rattle.ir_model.specs.Walks.Trail.{begins, enters as goes_along}
use Rattle.ir_model.specs.WellMade.{IsWellMade, IsResultOf}
use Rattle.ir_rules.specs.Accepted.{IsAccepted}
use Rattle.ir_rules.specs.Uses.{HasPassed}
use Rattle.ir_memory.specs.Memory.{Memory}
use Rattle.ir_meaning.specs.declared.value.Value.{Value}
use Rattle.ir_meaning.specs.declared.choice.Choice.{Choice}
use Rattle.ir_meaning.specs.Phases as phase
use Rattle.ir_meaning.specs.State.{Registers, Event, State}
use Rattle.ir_meaning.specs.Operands.{chosen}
use Rattle.ir_meaning.specs.Effects.{Goes}
use Rattle.ir_meaning.specs.Step.{effect, with_phis, after_effect, behind_phis, instr_at, step}
use Rattle.ir_meaning.specs.Run.{Run, start, after, last, GivesTo, IsFresh}
use Rattle.ir_meaning.proofs.StepShape.{Stepped, stays, ends, goes_on, enters, stepped}
use Rattle.ir_meaning.proofs.RunInvariants.{after-append}
use Rattle.ir_meaning.proofs.RegisterChanges.{given_other, phis_other, GivenByNone}
use Rattle.ir_meaning.proofs.LeadingPhis.{leading_at, going_no_phi}
use Rattle.never_stuck.proofs.Sound.{Sound, StandsIn}
use Rattle.never_stuck.proofs.Accepted.{facts_at, last_at}
use Rattle.never_stuck.proofs.EnteredPhis.{entry_block}
use Rattle.never_stuck.proofs.Standing.{some_within}
use Rattle.ssa_check.specs.declared.definitions.Definition.{Definition}
use Rattle.ssa_check.proofs.Elements.{contains_none}
use Rattle.ssa_check.specs.declared.definitions.Definition.TheVariants.{At, Parameter}
use Rattle.ssa_check.specs.Tables.{definition_of, at_place}
use Rattle.loop_regions.specs.Loops.{Loop}
use Rattle.loop_regions.proofs.EnteredEdges.{edge_of_entering}
use Rattle.scev_tree.specs.Tree.{Tree}
use Rattle.value_truth.specs.Available.{IsAvailable, IsInScope}
use Rattle.value_truth.specs.Truth.{Holds, Precedes, IsTrueAnew}
use Rattle.value_truth.proofs.HeldRegisters.{kept_in_run, stays_ended}
use Rattle.value_truth.proofs.Fresh.{gives_there}
use Rattle.value_truth.proofs.Whereabouts.{given_at_place, before_instr, before_phis, at_the_end}
use Rattle.value_truth.proofs.KeptNames.{bare_holds_on}
use Rattle.value_truth.proofs.KeptSteps.{kept_going, kept_entering}

-- ---- lists from their ends

append_some : {X : Type 0} (xs : List X) (x : X) → xs ++ x ∷ [] ≡ [] → ⊥
append_some [] x e = cc
append_some (y ∷ xs) x e = cc

-- one more at the end of two lists that are one then
snoc_same : {X : Type 0} (xs ys : List X) (x y : X) → xs ++ x ∷ [] ≡ ys ++ y ∷ [] → xs ≡ ys
snoc_same [] [] x y e = refl
snoc_same {X} [] (b ∷ ys) x y e =
    let rest : [] ≡ ys ++ y ∷ [] = cc in
    absurd (append_some ys y (sym rest))
snoc_same {X} (a ∷ xs) [] x y e =
    let rest : xs ++ x ∷ [] ≡ [] = cc in
    absurd (append_some xs x rest)
snoc_same {X} (a ∷ xs) (b ∷ ys) x y e =
    let first : a ≡ b = cc in
    let rest : xs ++ x ∷ [] ≡ ys ++ y ∷ [] = cc in
    rw first (ap (λ (zs : List X). b ∷ zs) (snoc_same xs ys x y rest))

-- what holds of the empty list, and with one more at the end, holds of each list
from_front : {X : Type 0} (P : List X → Type 0) → ((xs : List X) (x : X) → P xs → P (xs ++ x ∷ []))
    → (done rest : List X) → P done → P (done ++ rest)
from_front P more done [] holds = subst P (sym (append-nil done)) holds
from_front P more done (x ∷ rest) holds =
    subst P (append_assoc done (x ∷ []) rest) (from_front P more (done ++ x ∷ []) rest (more done x holds))

-- two numbers with two others
both_or_not : (a b j k : ℕ) → ((a ≡ b) × (j ≡ k)) ⊎ ((a ≡ b) × (j ≡ k) → ⊥)
both_or_not a b j k =
    elim (cases_eq a b) [
      | inl same ↦ elim (cases_eq j k) [ inl also ↦ inl (same, also) | inr apart ↦ inr (λ both. apart both.1) ]
      | inr apart ↦ inr (λ both. apart both.0)
    ]

below_or_not : (a b j k : ℕ) → ((a ≡ b) × (j < k)) ⊎ ((a ≡ b) × (j < k) → ⊥)
below_or_not a b j k =
    elim (cases_eq a b) [
      | inl same ↦
          elim (cases_lt j k) [ inl less ↦ inl (same, less) | inr more ↦ inr (λ both. omega (arith, both.1, more)) ]
      | inr apart ↦ inr (λ both. apart both.0)
    ]

-- where a value is defined, or that no instruction defines it
pub defined_or_not : (o : Definition) → ((d : BlockId) × (i : ℕ) × (o ≡ At d i))
    ⊎ ((d : BlockId) (i : ℕ) → o ≡ At d i → ⊥)
defined_or_not (At d i) = inl (d, i, refl)
defined_or_not _ = inr (λ d i e. cc)

-- a place of a value that no instruction defines is none
place_defined : (param : Bool) (o : Option (BlockId × ℕ)) (d : BlockId) (i : ℕ)
    → (if param then None else o) ≡ Some (d, i) → (if param then Parameter else at_place o) ≡ At d i
place_defined true o d i e = absurd cc
place_defined false None d i e = absurd cc
place_defined false (Some (b, j)) d i e = cc

-- what ends a block has no result
ends_without : (op : Op) → is_terminator op ≡ true → MayHaveResult op → ⊥
ends_without (Store kind value to) last may = may
ends_without _ last may = false≢true (sym may ∙ last)

module _ (signatures : Signatures) (f : Function) (made : IsWellMade f) (accepted : IsAccepted signatures f)
    (loops : List Loop) (v : ℕ) (tree : Tree) (scope : IsInScope f loops v tree) where
  -- what is claimed of a state
  abbrev Claim : State → Type 0
  Claim t = IsAvailable f v t.block t.place → Holds loops t v tree

  -- a value that no instruction defines is available everywhere, if it is somewhere
  bare_everywhere : ((d : BlockId) (i : ℕ) → definition_of f v ≡ At d i → ⊥) → (before : List ℕ) (b index : ℕ)
      → HasPassed f v before b index → (a j : ℕ) → IsAvailable f v a j
  bare_everywhere bare before b index (inl param) a j earlier trail = inl param
  bare_everywhere bare before b index (inr (at, i, there, passed)) a j earlier trail =
      absurd (bare at i (place_defined (is_param f.params v) (given_at f.blocks v) at i there))

  module _ (choice : Choice) (s : State) (running : s.phase ≡ phase.Running) (sound : Sound f s) (claim : Claim s)
      (instr : Instr) (stands : slice_get sound.block.instrs s.place ≡ Some instr) where
    -- what the instruction gives is none of a bare value
    bare_gives : ((d : BlockId) (i : ℕ) → definition_of f v ≡ At d i → ⊥) → GivesTo v instr → ⊥
    bare_gives bare gives =
        bare (record { 0 = s.block }) s.place
        (gives_there signatures f accepted s.block s.place sound.block instr v sound.at stands gives)

    module _ (x : Option Value) (memory : Memory) (events : List Event)
        (goes : effect choice s instr.op ≡ Goes x memory events)
        (fresh : IsFresh f (after_effect instr.result s (Goes x memory events)) v
        → Holds loops (after_effect instr.result s (Goes x memory events)) v tree)
        (available : IsAvailable f v s.block (s.place + 1)) where
      abbrev behind : State
      behind = after_effect instr.result s (Goes x memory events)

      going_bare : ((d : BlockId) (i : ℕ) → definition_of f v ≡ At d i → ⊥) → Holds loops behind v tree
      going_bare bare =
          let everywhere =
          bare_everywhere bare sound.before s.block (s.place + 1) (available sound.before sound.walk) in
          bare_holds_on f loops v tree s behind (scope.bare bare)
          (sym (given_other s.registers instr.result x v (bare_gives bare))) (claim (everywhere s.block s.place))

      going_at : (d : BlockId) (i : ℕ) → definition_of f v ≡ At d i → Holds loops behind v tree
      going_at d i is =
          elim (both_or_not d.0 s.block i s.place) [
            | inl here ↦
                let given = given_at_place signatures f made accepted v d i sound.block is (rw here.0 sound.at) in
                let at : slice_get sound.block.instrs s.place ≡ Some given.0 = rw (← here.1) given.1 in
                let one : given.0 ≡ instr = same_Some given.0 instr (sym at ∙ stands) in
                let next : s.place + 1 ≡ suc s.place = omega arith in
                fresh (
                  running,
                  sound.block,
                  sound.at,
                  inr (inr (
                    s.place,
                    instr,
                    next,
                    stands,
                    going_no_phi choice s instr.op x memory events goes,
                    rw (← one) given.2,
                  )),
                )
            | inr other ↦
                let earlier = before_instr signatures f made accepted v d i is s.block s.place other available in
                kept_going signatures f made accepted loops v tree d i is (scope.at d i is) s sound.before sound.walk
                sound.block sound.at instr x memory events stands other earlier (claim earlier)
          ]

      pub going : Holds loops behind v tree
      going =
          elim (defined_or_not (definition_of f v)) [ inl (d, i, is) ↦ going_at d i is | inr bare ↦ going_bare bare ]

    module _ (last : is_terminator instr.op ≡ true) (to : ℕ) (block : Block) (registers : Registers)
        (edge : Edge f s.block to) (found : block_of f to ≡ Some block)
        (phis : with_phis s.registers (chosen choice) s.block (leading_phis block.instrs) s.registers ≡ Some registers)
        (fresh : IsFresh f (behind_phis to block s (Some registers)) v
        → Holds loops (behind_phis to block s (Some registers)) v tree)
        (available : IsAvailable f v to (length (leading_phis block.instrs))) where
      abbrev entered : State
      entered = behind_phis to block s (Some registers)

      abbrev count : ℕ
      count = length (leading_phis block.instrs)

      longer : Trail f (to ∷ s.block ∷ sound.before)
      longer = goes_along sound.walk edge

      bare_phi : ((d : BlockId) (i : ℕ) → definition_of f v ≡ At d i → ⊥) → GivenByNone (leading_phis block.instrs) v
      bare_phi bare k phi at gives =
          bare (record { 0 = to }) k
          (gives_there signatures f accepted to k block phi v found (leading_at block.instrs phi k at).0 gives)

      entering_bare : ((d : BlockId) (i : ℕ) → definition_of f v ≡ At d i → ⊥) → Holds loops entered v tree
      entering_bare bare =
          let everywhere =
          bare_everywhere bare (s.block ∷ sound.before) to count (available (s.block ∷ sound.before) longer) in
          bare_holds_on f loops v tree s entered (scope.bare bare)
          (sym (phis_other s.registers (chosen choice) s.block (leading_phis block.instrs) s.registers registers v
          (bare_phi bare) phis)) (claim (everywhere s.block s.place))

      -- what is defined in the block that is left stands before its end
      before_the_end : (d : BlockId) (i : ℕ) → definition_of f v ≡ At d i → d.0 ≡ s.block → i < s.place
      before_the_end d i is own =
          let given = given_at_place signatures f made accepted v d i sound.block is (rw own sound.at) in
          let there : StandsIn f s.block s.place sound.block instr = record { block = sound.at; instr = stands } in
          let size = last_at signatures f made accepted s.block s.place sound.block instr there last in
          let within = slice_get_within sound.block.instrs i given.0 given.1 in
          elim (cases_eq i s.place) [
            | inl here ↦
                let one : given.0 ≡ instr =
                same_Some given.0 instr (sym given.1 ∙ ap (λ (k : ℕ). slice_get sound.block.instrs k) here ∙ stands) in
                let facts = facts_at signatures f made accepted s.block s.place sound.block instr there in
                let gives : GivesTo v instr = rw (← one) given.2 in
                absurd (ends_without instr.op last
                (subst (λ (result : Option ValueId). IsResultOf instr.op result) gives facts.formed.result))
            | inr apart ↦ omega (arith, size, within, apart)
          ]

      entering_at : (d : BlockId) (i : ℕ) → definition_of f v ≡ At d i → Holds loops entered v tree
      entering_at d i is =
          elim (below_or_not d.0 to i count) [
            | inl here ↦
                let given = given_at_place signatures f made accepted v d i block is (rw here.0 found) in
                let phi = some_within (leading_phis block.instrs) i here.1 in
                let leads = leading_at block.instrs phi.0 i phi.1 in
                let one : given.0 ≡ phi.0 = same_Some given.0 phi.0 (sym given.1 ∙ leads.0) in
                fresh (
                  running,
                  block,
                  found,
                  inr (inl (
                    (λ e. none-some s.block (sym e)),
                    refl,
                    (
                      i,
                      phi.0,
                      here.1,
                      get_or_from_slice_get (leading_phis block.instrs) i phi.0 phi.0 phi.1,
                      rw (← one) given.2,
                    ),
                  )),
                )
            | inr other ↦
                let start = before_phis signatures f made accepted v d i is to count other available in
                let earlier =
                at_the_end signatures f made accepted v d i is s.block to s.place edge (before_the_end d i is) start in
                kept_entering signatures f made accepted loops v tree d i is (scope.at d i is) s sound.before sound.walk
                sound.block sound.at to block registers (chosen choice) found sound.trail edge phis other available
                (claim earlier)
          ]

      pub entering : Holds loops entered v tree
      entering =
          elim (defined_or_not (definition_of f v)) [
            | inl (d, i, is) ↦ entering_at d i is
            | inr bare ↦ entering_bare bare
          ]

  -- ---- each step

  module _ (choice : Choice) (s : State) (running : s.phase ≡ phase.Running) (sound : Sound f s) (claim : Claim s) where
    abbrev Anew : State → Type 0
    Anew t = IsFresh f t v → Holds loops t v tree

    own_instr : (instr : Instr) → instr_at f s ≡ Some instr → slice_get sound.block.instrs s.place ≡ Some instr
    own_instr instr at =
        sym (ap (λ (o : Option Block). option_and_then (λ (block : Block). slice_get block.instrs s.place) o) sound.at)
        ∙ at

    pub by_step : (t : State) → Stepped f choice s t → Anew t → Claim t
    by_step t (stays e) fresh = subst Claim (sym e) claim
    by_step t (ends how e) fresh = subst Claim (sym e) claim
    by_step t (goes_on instr x memory events at other goes e) fresh =
        subst Claim (sym e)
        (going choice s running sound claim instr (own_instr instr at) x memory events goes (subst Anew e fresh))
    by_step t (enters instr to block registers at last leads found phis e) fresh =
        subst Claim (sym e)
        (entering choice s running sound claim instr (own_instr instr at) last to block registers
        (edge_of_entering f (chosen choice) s instr to at leads) found phis (subst Anew e fresh))

  -- ---- each state of a run

  module _ (anew : IsTrueAnew f loops v tree) (r : Run f) where
    -- the run with other choices, and its last state
    abbrev with_choices : List Choice → Run f
    with_choices choices = record { args = r.args; memory = r.memory; may = r.may; choices = choices }

    abbrev state : List Choice → State
    state choices = after f (start f r.args r.memory) choices

    -- a run that is one step shorter comes to the same state
    same_state : (choices : List Choice) (choice : Choice) (earlier : Run f)
        → Precedes f earlier (with_choices (choices ++ choice ∷ [])) → state choices ≡ last f earlier
    same_state choices choice earlier (other, args, memory, longer) =
        let same : choices ≡ earlier.choices = snoc_same choices earlier.choices choice other longer in
        rw (args, memory, same) refl

    passed_at_start : HasPassed f v [] (entry f.blocks) 0 → is_param f.params v ≡ true
    passed_at_start (inl param) = param
    passed_at_start (inr (at, i, there, inl earlier)) = absurd (contains_none at.0 earlier)
    passed_at_start (inr (at, i, there, inr here)) = absurd (omega (arith, here.1))

    first : Claim (state [])
    first available =
        let param = passed_at_start (available [] begins) in
        let block = entry_block signatures f made accepted in
        let any = Any-from_list_any (λ (p : Param). p.value.0 == v) f.params param in
        anew (with_choices []) (
          refl,
          block.0,
          block.1,
          inl (
            refl,
            refl,
            (any.0, any.1, any.2, any.3, eqb-true any.1.value.0 v any.4),
          ),
        )
        (λ earlier precedes. absurd (append_some earlier.choices precedes.0 (sym precedes.3)))

    more : (choices : List Choice) (choice : Choice) → Claim (state choices) → Claim (state (choices ++ choice ∷ []))
    more choices choice claim =
        let s = state choices in
        let next : state (choices ++ choice ∷ []) ≡ step f choice s =
        after-append f (start f r.args r.memory) choices (choice ∷ []) in
        let kept = kept_in_run signatures f made accepted r.args r.memory r.may choices in
        subst Claim (sym next)
        (elim kept.1 [
          | inl (sound, running) ↦
              by_step choice s running sound claim (step f choice s) (stepped f choice s)
              (λ fresh.
              subst (λ (t : State). Holds loops t v tree) next
              (anew (with_choices (choices ++ choice ∷ [])) (subst (λ (t : State). IsFresh f t v) (sym next) fresh)
              (λ earlier precedes. subst Claim (same_state choices choice earlier precedes) claim)))
          | inr ended ↦
              subst Claim (sym (stays_ended f choice s (λ runs. ended.3 (sym ended.1 ∙ runs)))) claim
        ])

    pub always : Claim (last f r)
    always = from_front (λ choices. Claim (state choices)) more [] r.choices first
