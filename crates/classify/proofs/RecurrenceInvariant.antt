-- What holds of a recurrence at each state of a run.
use Rattle.std.specs.Prelude.{◌≡◌, ◌≢◌, ℕ, suc, ◌+◌, ◌*◌, ◌%◌, ◌^◌, ◌<◌, ◌≤◌, ◌⊎◌, List, ◌∷◌, length, true, false}
use Rattle.std.specs.Prelude.{Option, Some, option_and_then, slice_get, refl}
use Rattle.std.proofs.Common.{ap, sym, subst, ◌∙◌, arith, inl, inr}
use Rattle.std.proofs.lemmas.Bool.{cases_lt}
use Rattle.std.proofs.lemmas.Option.{same_Some, slice_get_within}
use Rattle.ir_model.specs.declared.types.IrType.TheVariants.{Int}
use Rattle.ir_model.specs.declared.op.Operand.{Operand}
use Rattle.ir_model.specs.declared.op.Operand.TheVariants as operand
use Rattle.ir_model.specs.declared.op.Op.{Op}
use Rattle.ir_model.specs.declared.op.Op.TheVariants.{Phi}
use Rattle.ir_model.specs.declared.function.Instr.{Instr}
use Rattle.ir_model.specs.declared.function.Block.{Block}
use Rattle.ir_model.specs.declared.function.Function.{Function}
use Rattle.ir_memory.specs.Memory.{Memory}
use Rattle.ir_meaning.specs.declared.choice.Choice.{Choice}
use Rattle.ir_meaning.specs.declared.value.Value.{Value}
use Rattle.ir_meaning.specs.declared.value.Value.TheVariants as value
use Rattle.ir_meaning.specs.State.{Registers, Event, State}
use Rattle.ir_meaning.specs.Operands.{chosen, operand_value}
use Rattle.ir_model.specs.Shapes.{block_of, leading_phis, is_terminator}
use Rattle.ir_meaning.specs.Effects.{Goes}
use Rattle.ir_meaning.specs.Step.{Enters, effect, way, entry_from, phi_value, with_phis, behind_phis, with_given}
use Rattle.ir_meaning.specs.Step.{after_effect, instr_at}
use Rattle.ir_meaning.specs.Run.{Run, start, last}
use Rattle.ir_meaning.specs.Thin.{IsThinFunction}
use Rattle.ir_meaning.proofs.StepShape.{Stepped, stays, ends, goes_on, enters}
use Rattle.ir_meaning.proofs.RunInvariants.{after_keeps}
use Rattle.ir_meaning.proofs.Trails.{HasTrail, trail_kept}
use Rattle.ir_meaning.proofs.RegisterChanges.{from_and_then, given_same, given_other, phis_at, GivenOnlyAt}
use Rattle.ir_meaning.proofs.LeadingPhis.{leading_at, behind_leading, last_no_phi, going_no_phi}
use Rattle.ir_meaning.proofs.ThinBlocks.{giving_before_terminator}
use Rattle.loop_regions.specs.Loops.{Loop}
use Rattle.loop_regions.specs.Turns.{has, turn}
use Rattle.ir_model.specs.Walks.{Edge}
use Rattle.loop_regions.proofs.TurnSteps.{turn_again, turn_anew}
use Rattle.loop_regions.proofs.EnteredEdges.{edge_of_entering}
use Rattle.scev_tree.proofs.AffineValue.{first_turn, next_turn}
use Rattle.classify.proofs.DefinedOnce.{only_there}
use Rattle.classify.proofs.KeptNumbers.{Keeps, of_type_same, numeral_value, numeral_small, add_kept, increment_no_phi}
use Rattle.classify.proofs.RecurrenceShape.{Shape}

-- A recurrence in the header of a loop. Of the blocks from which the header is entered, the header itself is the only
-- one in the loop.
pub record Setting (f : Function) (b p first step : ℕ) (l : Loop) : Type 0 where
  pub thin : IsThinFunction f
  pub shape : Shape f b p first step
  pub header : b ≡ l.header
  pub before : (a : ℕ) → Edge f a b → ((a ≡ b) × (has l a ≡ true)) ⊎ ((a ≢ b) × (has l a ≡ false))

-- the number of a recurrence at a turn
abbrev pub at_turn : ℕ → ℕ → ℕ → ℕ
at_turn first step t = (first + t * step) % 2 ^ 32

-- In the block behind its leading phis, the phi holds poison or the recurrence's number at the turn; and behind the
-- `add`, its register that of the next turn.
abbrev pub Here : (f : Function) (b p first step : ℕ) (l : Loop) → Shape f b p first step → State → Type 0
Here f b p first step l shape s = s.block ≡ b → length (leading_phis shape.block.instrs) ≤ s.place
    → Keeps (s.registers p) (at_turn first step (turn l s.trail)) × (shape.add_at < s.place → Keeps (s.registers shape.next) (at_turn first step (suc (turn l s.trail))))

-- the instruction at which a state stands, in the block
instr_in : (f : Function) (s : State) (b : ℕ) (block : Block) (instr : Instr) → s.block ≡ b → block_of f b ≡ Some block
    → instr_at f s ≡ Some instr → slice_get block.instrs s.place ≡ Some instr
instr_in f s b block instr here found at =
    subst (λ (o : Option Block). option_and_then (λ (one : Block). slice_get one.instrs s.place) o ≡ Some instr) (ap (λ (c : ℕ). block_of f c) here ∙ found) at

module _ (f : Function) (b p first step : ℕ) (l : Loop) (g : Setting f b p first step l) where
  phi_in_block : slice_get g.shape.block.instrs g.shape.phi_at ≡ Some g.shape.phi
  phi_in_block = (leading_at g.shape.block.instrs g.shape.phi g.shape.phi_at g.shape.phi_there).0

  phi_alone : GivenOnlyAt g.shape.block.instrs p g.shape.phi_at
  phi_alone = only_there f b p g.shape.phi_at g.shape.block g.shape.phi g.shape.names g.shape.is_block phi_in_block g.shape.phi_gives

  add_alone : GivenOnlyAt g.shape.block.instrs g.shape.next g.shape.add_at
  add_alone = only_there f b g.shape.next g.shape.add_at g.shape.block g.shape.add g.shape.names g.shape.is_block g.shape.add_there g.shape.add_gives

  phi_early : g.shape.phi_at < length (leading_phis g.shape.block.instrs)
  phi_early = slice_get_within (leading_phis g.shape.block.instrs) g.shape.phi_at g.shape.phi g.shape.phi_there

  -- an instruction that is no terminator
  module _ (choice : Choice) (s : State) (instr : Instr) (x : Option Value) (memory : Memory) (events : List Event) (at : instr_at f s ≡ Some instr) (goes : effect choice s instr.op ≡ Goes x memory events) where
    next_after : slice_get g.shape.block.instrs s.place ≡ Some instr
        → Keeps (s.registers p) (at_turn first step (turn l s.trail))
        → (g.shape.add_at < s.place → Keeps (s.registers g.shape.next) (at_turn first step (suc (turn l s.trail))))
        → (g.shape.add_at < s.place) ⊎ (s.place ≤ g.shape.add_at) → g.shape.add_at < s.place + 1
        → Keeps (with_given s.registers instr.result x g.shape.next) (at_turn first step (suc (turn l s.trail)))
    next_after there held rest (inl early) past =
        let other : with_given s.registers instr.result x g.shape.next ≡ s.registers g.shape.next = given_other s.registers instr.result x g.shape.next (λ is. absurd (omega (arith, add_alone s.place instr there is))) in
        subst (λ (o : Option Value). Keeps o (at_turn first step (suc (turn l s.trail)))) (sym other) (rest early)
    next_after there held rest (inr late) past =
        let same : g.shape.add_at ≡ s.place = omega arith in
        let is : instr ≡ g.shape.add = same_Some instr g.shape.add (sym there ∙ sym (ap (λ (k : ℕ). slice_get g.shape.block.instrs k) same) ∙ g.shape.add_there) in
        let sum = add_kept choice s p step (at_turn first step (turn l s.trail)) g.shape.add.op x memory events g.shape.increments held (ap (λ (i : Instr). effect choice s i.op) (sym is) ∙ goes) in
        let given : with_given s.registers instr.result x g.shape.next ≡ Some sum.0 = given_same s.registers instr.result x sum.0 g.shape.next sum.1 (ap (λ (i : Instr). i.result) is ∙ g.shape.add_gives) in
        subst (λ (o : Option Value). Keeps o (at_turn first step (suc (turn l s.trail)))) (sym given) (subst (λ (k : ℕ). Keeps (Some sum.0) k) (next_turn first step (turn l s.trail) (2 ^ 32)) sum.2)

    here_after_going : Here f b p first step l g.shape s
        → Here f b p first step l g.shape (after_effect instr.result s (Goes x memory events))
    here_after_going h here late =
        let there = instr_in f s b g.shape.block instr here g.shape.is_block at in
        let behind = behind_leading g.shape.block.instrs instr s.place there (going_no_phi choice s instr.op x memory events goes) in
        let old = h here behind in
        let other : with_given s.registers instr.result x p ≡ s.registers p = given_other s.registers instr.result x p (λ is. absurd (omega (arith, phi_alone s.place instr there is, phi_early, behind))) in (
          subst (λ (o : Option Value). Keeps o (at_turn first step (turn l s.trail))) (sym other) old.0,
          next_after there old.0 old.1 (cases_lt g.shape.add_at s.place),
        )

  -- the phi's value where the block is entered
  phi_given : (n : ℕ) (s : State) (registers : Registers)
      → with_phis s.registers n s.block (leading_phis g.shape.block.instrs) s.registers ≡ Some registers
      → (x : Value) × (o : Operand) × (entry_from s.block g.shape.entries ≡ Some o) × (operand_value s.registers n (Int 32) o ≡ Some x) × (registers p ≡ Some x)
  phi_given n s registers phis =
      let at = phis_at s.registers n s.block (leading_phis g.shape.block.instrs) s.registers registers p g.shape.phi_at g.shape.phi g.shape.phi_there g.shape.phi_gives (λ j other there gives. phi_alone j other (leading_at g.shape.block.instrs other j there).0 gives) phis in
      let value : phi_value s.registers n s.block (Phi (Int 32) g.shape.entries) ≡ Some at.0 = subst (λ (op : Op). phi_value s.registers n s.block op ≡ Some at.0) g.shape.phi_op at.1 in
      let entry = from_and_then (entry_from s.block g.shape.entries) (operand_value s.registers n (Int 32)) at.0 value in
      (at.0, entry.0, entry.1, entry.2, at.2)

  -- from the block itself: the register of the `add`
  entered_again : (n : ℕ) (s : State) (instr : Instr) (c : ℕ) (registers : Registers) → HasTrail s
      → Here f b p first step l g.shape s → instr_at f s ≡ Some instr → is_terminator instr.op ≡ true
      → with_phis s.registers n s.block (leading_phis g.shape.block.instrs) s.registers ≡ Some registers → c ≡ b
      → s.block ≡ b → has l s.block ≡ true → Keeps (registers p) (at_turn first step (turn l (c ∷ s.trail)))
  entered_again n s instr c registers trail h at last phis is here inside =
      let there = instr_in f s b g.shape.block instr here g.shape.is_block at in
      let behind = behind_leading g.shape.block.instrs instr s.place there (last_no_phi instr.op last) in
      let past = giving_before_terminator f b g.shape.block g.shape.add_at s.place g.shape.add instr g.shape.next g.thin g.shape.is_block g.shape.add_there g.shape.add_gives there last in
      let old = (h here behind).1 past in
      let given = phi_given n s registers phis in
      let entry : given.1 ≡ operand.Reg (record { 0 = g.shape.next }) = same_Some given.1 (operand.Reg (record { 0 = g.shape.next })) (sym given.2 ∙ ap (λ (a : ℕ). entry_from a g.shape.entries) here ∙ g.shape.from_inside) in
      let held : s.registers g.shape.next ≡ Some given.0 = of_type_same (Int 32) (s.registers g.shape.next) given.0 (subst (λ (o : Operand). operand_value s.registers n (Int 32) o ≡ Some given.0) entry given.3) in
      let turned = turn_again l s.trail s.block s.previous c trail (is ∙ g.header) inside in
      subst (λ (t : ℕ). Keeps (registers p) (at_turn first step t)) (sym turned) (subst (λ (o : Option Value). Keeps o (at_turn first step (suc (turn l s.trail)))) (held ∙ sym given.4) old)

  -- from outside: the numeral
  entered_anew : (n : ℕ) (s : State) (c : ℕ) (registers : Registers) → HasTrail s
      → with_phis s.registers n s.block (leading_phis g.shape.block.instrs) s.registers ≡ Some registers → c ≡ b
      → s.block ≢ b → has l s.block ≡ false → Keeps (registers p) (at_turn first step (turn l (c ∷ s.trail)))
  entered_anew n s c registers trail phis is apart outside =
      let given = phi_given n s registers phis in
      let numeral = g.shape.from_outside s.block given.1 apart given.2 in
      let number : registers p ≡ Some (value.Number first) = given.4 ∙ sym given.3 ∙ numeral_value s.registers n first given.1 numeral in
      let whole : at_turn first step 0 ≡ first = first_turn first step (2 ^ 32) (numeral_small first given.1 numeral) in
      let turned = turn_anew l s.trail s.block s.previous c trail (is ∙ g.header) outside in
      subst (λ (t : ℕ). Keeps (registers p) (at_turn first step t)) (sym turned) (inr (number ∙ ap (λ (k : ℕ). Some (value.Number k)) (sym whole)))

  here_after_entering : (n : ℕ) (s : State) (instr : Instr) (c : ℕ) (block : Block) (registers : Registers) → HasTrail s
      → Here f b p first step l g.shape s → instr_at f s ≡ Some instr → is_terminator instr.op ≡ true
      → way s.registers n instr.op ≡ Enters c → block_of f c ≡ Some block
      → with_phis s.registers n s.block (leading_phis block.instrs) s.registers ≡ Some registers
      → Here f b p first step l g.shape (behind_phis c block s (Some registers))
  here_after_entering n s instr c block registers trail h at last leads found phis is late =
      let same : block ≡ g.shape.block = same_Some block g.shape.block (sym found ∙ ap (λ (a : ℕ). block_of f a) is ∙ g.shape.is_block) in
      let phis' : with_phis s.registers n s.block (leading_phis g.shape.block.instrs) s.registers ≡ Some registers = subst (λ (one : Block). with_phis s.registers n s.block (leading_phis one.instrs) s.registers ≡ Some registers) same phis in
      let edge : Edge f s.block b = subst (λ (a : ℕ). Edge f s.block a) is (edge_of_entering f n s instr c at leads) in
      let count : length (leading_phis block.instrs) ≡ length (leading_phis g.shape.block.instrs) = ap (λ (one : Block). length (leading_phis one.instrs)) same in
      let add_late = behind_leading g.shape.block.instrs g.shape.add g.shape.add_at g.shape.add_there (increment_no_phi p step g.shape.add.op g.shape.increments) in
      let phi_kept : Keeps (registers p) (at_turn first step (turn l (c ∷ s.trail))) = elim (g.before s.block edge) [
        | inl again ↦ entered_again n s instr c registers trail h at last phis' is again.0 again.1
        | inr anew ↦ entered_anew n s c registers trail phis' is anew.0 anew.1
      ] in
      (phi_kept, λ past. absurd (omega (arith, add_late, count, past)))

  here_kept : (choice : Choice) (s t : State) → Stepped f choice s t → HasTrail s → Here f b p first step l g.shape s
      → Here f b p first step l g.shape t
  here_kept choice s t (stays e) trail h = subst (λ (u : State). Here f b p first step l g.shape u) (sym e) h
  here_kept choice s t (ends how e) trail h =
      subst (λ (u : State). Here f b p first step l g.shape u) (sym e) h
  here_kept choice s t (goes_on instr x memory events at other goes e) trail h =
      subst (λ (u : State). Here f b p first step l g.shape u) (sym e) (here_after_going choice s instr x memory events at goes h)
  here_kept choice s t (enters instr c block registers at last leads found phis e) trail h =
      subst (λ (u : State). Here f b p first step l g.shape u) (sym e) (here_after_entering (chosen choice) s instr c block registers trail h at last leads found phis)

  -- at each state of a run the trail goes with the block, and the recurrence is kept
  pub kept_in_run : (r : Run f) → HasTrail (last f r) × Here f b p first step l g.shape (last f r)
  kept_in_run r =
      after_keeps f (λ s. HasTrail s × Here f b p first step l g.shape s) (λ choice s t stepped h. (trail_kept f choice s t stepped h.0, here_kept choice s t stepped h.0 h.1)) (start f r.args r.memory) r.choices ((refl, refl), λ here late. absurd (omega (arith, phi_early, late)))
