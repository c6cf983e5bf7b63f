-- Which registers a step changes.
use Rattle.std.specs.Prelude.{◌≡◌, ℕ, suc, zero, ◌==◌, List, [], ◌∷◌, Option, Some, None, option_and_then, slice_get}
use Rattle.std.specs.Prelude.{refl}
use Rattle.std.proofs.Common.{ap, sym, ◌∙◌, inl, inr, ◌⊎◌}
use Rattle.std.proofs.Math.Nat.{suc-ne-zero, suc_inj}
use Rattle.std.proofs.lemmas.Bool.{cases_eq, eq-eqb, ne_eqb, cond-true, cond-false}
use Rattle.std.proofs.lemmas.Option.{none-some, same_Some}
use Rattle.scev_base.specs.declared.ids.ValueId.{ValueId}
use Rattle.ir_model.specs.declared.function.Instr.{Instr}
use Rattle.ir_model.specs.declared.function.Block.{Block}
use Rattle.ir_model.specs.declared.function.Function.{Function}
use Rattle.ir_model.specs.Shapes.{block_of, leading_phis}
use Rattle.ir_memory.specs.Memory.{Memory}
use Rattle.ir_meaning.specs.declared.value.Value.{Value}
use Rattle.ir_meaning.specs.declared.choice.Choice.{Choice}
use Rattle.ir_meaning.specs.State.{Registers, set, Event, State}
use Rattle.ir_meaning.specs.Operands.{chosen}
use Rattle.ir_meaning.specs.Effects.{Goes}
use Rattle.ir_meaning.specs.Step.{Computed, Gives, Fails, effect, gone, instr_at, phi_value, with_phis, with_given}
use Rattle.ir_meaning.specs.Run.{GivesTo}
use Rattle.ir_meaning.proofs.StepShape.{Stepped, stays, ends, goes_on, enters}

set_same : (registers : Registers) (result : Option ValueId) (x : Value) (v : ℕ) → result ≡ Some (record { 0 = v })
    → set registers result x v ≡ Some x
set_same registers result x v is =
    rw is (cond-true (v == v) (Some x) (registers v) (eq-eqb v v refl))

set_other : (registers : Registers) (result : Option ValueId) (x : Value) (v : ℕ)
    → (result ≡ Some (record { 0 = v }) → ⊥) → set registers result x v ≡ registers v
set_other registers None x v other = refl
set_other registers (Some w) x v other =
    cond-false (v == w.0) (Some x) (registers v) (ne_eqb v w.0 (λ e. other (rw e)))

-- and so with what an instruction gives, if anything
pub given_same : (registers : Registers) (result : Option ValueId) (x : Option Value) (y : Value) (v : ℕ) → x ≡ Some y
    → result ≡ Some (record { 0 = v }) → with_given registers result x v ≡ Some y
given_same registers result x y v gives is = rw gives (set_same registers result y v is)

pub given_other : (registers : Registers) (result : Option ValueId) (x : Option Value) (v : ℕ)
    → (result ≡ Some (record { 0 = v }) → ⊥) → with_given registers result x v ≡ registers v
given_other registers result None v other = refl
given_other registers result (Some x) v other = set_other registers result x v other

-- what is computed goes on with its value
pub gone_on : (s : State) (c : Computed) (x : Option Value) (memory : Memory) (events : List Event)
    → gone s c ≡ Goes x memory events → (y : Value) × (x ≡ Some y) × (c ≡ Gives y)
gone_on s (Gives y) x memory events goes = (y, cc, refl)
gone_on s (Fails how) x memory events goes = cc

-- The register is the result of no instruction of the list.
abbrev pub GivenByNone : List Instr → ℕ → Type 0
GivenByNone instrs v = (j : ℕ) (instr : Instr) → slice_get instrs j ≡ Some instr → GivesTo v instr → ⊥

-- an option that leads to a value has one
pub from_and_then : {A B : Type 0} (o : Option A) (next : A → Option B) (y : B) → option_and_then next o ≡ Some y
    → (x : A) × (o ≡ Some x) × (next x ≡ Some y)
from_and_then None next y e = absurd (none-some y e)
from_and_then (Some x) next y e = (x, refl, e)

-- phis leave the other registers
pub phis_other : (before : Registers) (n from : ℕ) (instrs : List Instr) (after registers : Registers) (v : ℕ)
    → GivenByNone instrs v → with_phis before n from instrs after ≡ Some registers → registers v ≡ after v
phis_other before n from [] after registers v none e = ap (λ (r : Registers). r v) (sym (same_Some after registers e))
phis_other before n from (instr ∷ instrs) after registers v none e =
    let first = from_and_then (phi_value before n from instr.op) (λ (x : Value). with_phis before n from instrs (set after instr.result x)) registers e in
    phis_other before n from instrs (set after instr.result first.0) registers v (λ j other at gives. none (suc j) other at gives) first.2 ∙ set_other after instr.result first.0 v (λ gives. none 0 instr refl gives)

-- The register is the result of no instruction of the list but of the one at the place.
abbrev pub GivenOnlyAt : List Instr → ℕ → ℕ → Type 0
GivenOnlyAt instrs v k = (j : ℕ) (instr : Instr) → slice_get instrs j ≡ Some instr → GivesTo v instr → j ≡ k

-- a register that one phi alone gives has the value of that phi, read in the registers before
pub phis_at : (before : Registers) (n from : ℕ) (instrs : List Instr) (after registers : Registers) (v k : ℕ) (phi : Instr)
    → slice_get instrs k ≡ Some phi → GivesTo v phi → GivenOnlyAt instrs v k
    → with_phis before n from instrs after ≡ Some registers
    → (x : Value) × (phi_value before n from phi.op ≡ Some x) × (registers v ≡ Some x)
phis_at before n from [] after registers v k phi at gives alone e = absurd (none-some phi at)
phis_at before n from (instr ∷ instrs) after registers v zero phi at gives alone e =
    let same : instr ≡ phi = same_Some instr phi at in
    let result : instr.result ≡ Some (record { 0 = v }) = rw same gives in
    let first = from_and_then (phi_value before n from instr.op) (λ (x : Value). with_phis before n from instrs (set after instr.result x)) registers e in
    let rest : registers v ≡ set after instr.result first.0 v = phis_other before n from instrs (set after instr.result first.0) registers v (λ j other there gives'. absurd (suc-ne-zero j (alone (suc j) other there gives'))) first.2 in
    (first.0, rw (← same) first.1, rest ∙ set_same after instr.result first.0 v result)
phis_at before n from (instr ∷ instrs) after registers v (suc k) phi at gives alone e =
    let first = from_and_then (phi_value before n from instr.op) (λ (x : Value). with_phis before n from instrs (set after instr.result x)) registers e in
    phis_at before n from instrs (set after instr.result first.0) registers v k phi at gives (λ j other there gives'. suc_inj (alone (suc j) other there gives')) first.2

-- How a step changes a register: not at all; by the instruction carried out; or by a phi of the block entered.
pub data Changed (f : Function) (choice : Choice) (s t : State) (v : ℕ) : Type 0 where
  unchanged : t.registers v ≡ s.registers v → Changed f choice s t v
  by_instr : (instr : Instr) (x : Value) (memory : Memory) (events : List Event) → instr_at f s ≡ Some instr
      → GivesTo v instr → effect choice s instr.op ≡ Goes (Some x) memory events → t.registers v ≡ Some x
      → Changed f choice s t v
  by_phi : (block : Block) (k : ℕ) (phi : Instr) → block_of f t.block ≡ Some block
      → slice_get (leading_phis block.instrs) k ≡ Some phi → GivesTo v phi → Changed f choice s t v

-- an instruction gives its result to the register, or not
gives_or_not : (result : Option ValueId) (v : ℕ)
    → (result ≡ Some (record { 0 = v })) ⊎ (result ≡ Some (record { 0 = v }) → ⊥)
gives_or_not None v = inr (λ e. none-some (record { 0 = v }) e)
gives_or_not (Some w) v =
    elim (cases_eq w.0 v) [ inl e ↦ inl (rw e) | inr apart ↦ inr (λ e. apart (ap (λ (u : ValueId). u.0) (same_Some w (record { 0 = v }) e))) ]

none_more : (instr : Instr) (instrs : List Instr) (v : ℕ) → (GivesTo v instr → ⊥) → GivenByNone instrs v
    → GivenByNone (instr ∷ instrs) v
none_more instr instrs v not none zero other at gives =
    not (ap (λ (i : Instr). i.result) (same_Some instr other at) ∙ gives)
none_more instr instrs v not none (suc j) other at gives = none j other at gives

-- some instruction of the list gives the register, or none does
pub given_or_not : (instrs : List Instr) (v : ℕ)
    → ((k : ℕ) × (instr : Instr) × (slice_get instrs k ≡ Some instr) × GivesTo v instr) ⊎ GivenByNone instrs v
given_or_not [] v = inr (λ j instr at gives. none-some instr at)
given_or_not (instr ∷ instrs) v = first (gives_or_not instr.result v) (given_or_not instrs v)
  where
    first : GivesTo v instr ⊎ (GivesTo v instr → ⊥)
        → ((k : ℕ) × (other : Instr) × (slice_get instrs k ≡ Some other) × GivesTo v other) ⊎ GivenByNone instrs v
        → ((k : ℕ) × (other : Instr) × (slice_get (instr ∷ instrs) k ≡ Some other) × GivesTo v other) ⊎ GivenByNone (instr ∷ instrs) v
    first (inl gives) rest = inl (0, instr, refl, gives)
    first (inr not) (inl rest) = inl (suc rest.0, rest.1, rest.2, rest.3)
    first (inr not) (inr none) = inr (none_more instr instrs v not none)

-- each register is changed so by each step
pub changed : (f : Function) (choice : Choice) (s t : State) (v : ℕ) → Stepped f choice s t → Changed f choice s t v
changed f choice s t v (stays e) = unchanged (rw e)
changed f choice s t v (ends how e) = unchanged (rw e)
changed f choice s t v (goes_on instr None memory events at other goes e) = unchanged (rw e)
changed f choice s t v (goes_on instr (Some x) memory events at other goes e) =
    elim (gives_or_not instr.result v) [
      | inl is ↦ by_instr instr x memory events at is goes (rw e (set_same s.registers instr.result x v is))
      | inr not ↦ unchanged (rw e (set_other s.registers instr.result x v not))
    ]
changed f choice s t v (enters instr b block registers at last leads found phis e) =
    elim (given_or_not (leading_phis block.instrs) v) [
      | inl is ↦ by_phi block is.0 is.1 (rw e found) is.2 is.3
      | inr none ↦ unchanged (rw e (phis_other s.registers (chosen choice) s.block (leading_phis block.instrs) s.registers registers v none phis))
    ]
