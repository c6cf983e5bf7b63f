-- Phis that are read into a room, and whose results are then taken from it.
use Rattle.std.specs.Prelude.{◌≡◌, ℕ, zero, suc, ◌==◌, List, [], ◌∷◌, Bool, true, false, cond, refl}
use Rattle.std.specs.Prelude.{Option, Some, None, option_and_then, slice_get}
use Rattle.std.proofs.Common.{ap, sym, ◌∙◌, inl, inr}
use Rattle.std.proofs.Math.Path.{fun_ext}
use Rattle.std.proofs.lemmas.Bool.{eq-eqb, ne_eqb, cond-true, cond-false}
use Rattle.std.proofs.lemmas.Option.{none-some, same_Some}
use Rattle.scev_base.specs.declared.ids.ValueId.{ValueId}
use Rattle.ir_model.specs.declared.function.Instr.{Instr}
use Rattle.ir_meaning.specs.declared.value.Value.{Value}
use Rattle.ir_meaning.specs.State.{Registers, set}
use Rattle.ir_meaning.specs.Step.{phi_value, with_phis}
use Rattle.ir_meaning.specs.Run.{GivesTo}
use Rattle.ir_machine.specs.Taken.{taken, taken_one}
use Rattle.ir_meaning.proofs.RegisterChanges.{GivenByNone, given_or_not, from_and_then, phis_other}

-- a register that has what it would be given keeps it
keeps_one : (from : Registers) (target : Option ValueId) (registers : Registers) (v : ℕ) → registers v ≡ from v
    → taken_one from target registers v ≡ from v
keeps_one from None registers v same = same
keeps_one from (Some w) registers v same = each (v == w.0)
  where
    each : (b : Bool) → cond b (from v) (registers v) ≡ from v
    each true = refl
    each false = same

keeps : (from : Registers) (instrs : List Instr) (registers : Registers) (v : ℕ) → registers v ≡ from v
    → taken from instrs registers v ≡ from v
keeps from [] registers v same = same
keeps from (instr ∷ instrs) registers v same =
    keeps from instrs (taken_one from instr.result registers) v (keeps_one from instr.result registers v same)

-- a result is taken
taken_target : (from : Registers) (target : Option ValueId) (registers : Registers) (v : ℕ)
    → target ≡ Some (record { 0 = v }) → taken_one from target registers v ≡ from v
taken_target from target registers v is =
    rw is (cond-true (v == v) (from v) (registers v) (eq-eqb v v refl))

taken_given : (from : Registers) (instrs : List Instr) (registers : Registers) (v k : ℕ) (instr : Instr)
    → slice_get instrs k ≡ Some instr → GivesTo v instr → taken from instrs registers v ≡ from v
taken_given from [] registers v k instr at gives = absurd (none-some instr at)
taken_given from (x ∷ instrs) registers v zero instr at gives =
    keeps from instrs (taken_one from x.result registers) v
    (taken_target from x.result registers v (ap (λ (i : Instr). i.result) (same_Some x instr at) ∙ gives))
taken_given from (x ∷ instrs) registers v (suc k) instr at gives =
    taken_given from instrs (taken_one from x.result registers) v k instr at gives

-- other registers aren't changed
other_target : (from : Registers) (target : Option ValueId) (registers : Registers) (v : ℕ)
    → (target ≡ Some (record { 0 = v }) → ⊥) → taken_one from target registers v ≡ registers v
other_target from None registers v other = refl
other_target from (Some w) registers v other =
    cond-false (v == w.0) (from v) (registers v) (ne_eqb v w.0 (λ e. other (rw e)))

taken_other : (from : Registers) (instrs : List Instr) (registers : Registers) (v : ℕ) → GivenByNone instrs v
    → taken from instrs registers v ≡ registers v
taken_other from [] registers v none = refl
taken_other from (x ∷ instrs) registers v none =
    taken_other from instrs (taken_one from x.result registers) v (λ j instr at gives. none (suc j) instr at gives)
    ∙ other_target from x.result registers v (λ gives. none 0 x refl gives)

-- where a room ends up with the value of a phi, it may be set at once
one_by_one : (before : Registers) (n from : ℕ) (instrs : List Instr) (target : Option ValueId) (x : Value)
    (room last registers : Registers) → with_phis before n from instrs (set room target x) ≡ Some last
    → taken last instrs (set registers target x) ≡ taken last instrs (taken_one last target registers)
one_by_one before n from instrs target x room last registers e = fun_ext (λ v. at v)
  where
    here : (target : Option ValueId) (v : ℕ) → last v ≡ set room target x v
        → set registers target x v ≡ taken_one last target registers v
    here None v same = refl
    here (Some w) v same = each (v == w.0) same
      where
        each : (b : Bool) → last v ≡ cond b (Some x) (room v)
            → cond b (Some x) (registers v) ≡ cond b (last v) (registers v)
        each true same = sym same
        each false same = refl

    at : (v : ℕ) → taken last instrs (set registers target x) v ≡ taken last instrs (taken_one last target registers) v
    at v =
        let at_once = set registers target x in
        let one_later = taken_one last target registers in
        elim (given_or_not instrs v) [
          | inl is ↦
              taken_given last instrs at_once v is.0 is.1 is.2 is.3
              ∙ sym (taken_given last instrs one_later v is.0 is.1 is.2 is.3)
          | inr none ↦
              taken_other last instrs at_once v none
              ∙ here target v (phis_other before n from instrs (set room target x) last v none e)
              ∙ sym (taken_other last instrs one_later v none)
        ]

-- phis that have their values give the registers what they give a room
pub through_room : (before : Registers) (n from : ℕ) (instrs : List Instr) (room last registers : Registers)
    → with_phis before n from instrs room ≡ Some last
    → with_phis before n from instrs registers ≡ Some (taken last instrs registers)
through_room before n from [] room last registers e = refl
through_room before n from (instr ∷ instrs) room last registers e =
    let first = from_and_then (phi_value before n from instr.op)
    (λ (x : Value). with_phis before n from instrs (set room instr.result x)) last e in
    let x = first.0 in
    rw first.1
    (through_room before n from instrs (set room instr.result x) last (set registers instr.result x) first.2
    ∙ ap (λ (r : Registers). Some r) (one_by_one before n from instrs instr.result x room last registers first.2))

-- what leads to nothing wherever another does, leads to nothing where that does from an option
none_by_none : {A B C : Type 0} (o : Option A) (one : A → Option B) (other : A → Option C)
    → ((x : A) → one x ≡ None → other x ≡ None) → option_and_then one o ≡ None → option_and_then other o ≡ None
none_by_none None one other more none = refl
none_by_none (Some x) one other more none = more x none

-- phis of which one has no value give nothing, whatever is changed
pub none_through_room : (before : Registers) (n from : ℕ) (instrs : List Instr) (room registers : Registers)
    → with_phis before n from instrs room ≡ None → with_phis before n from instrs registers ≡ None
none_through_room before n from [] room registers e = absurd (none-some room (sym e))
none_through_room before n from (instr ∷ instrs) room registers e =
    none_by_none (phi_value before n from instr.op) (λ x. with_phis before n from instrs (set room instr.result x))
    (λ x. with_phis before n from instrs (set registers instr.result x))
    (λ x. none_through_room before n from instrs (set room instr.result x) (set registers instr.result x)) e
