-- Registers that hold values of their types, as they are set: by arguments, by results, and by phis.
use Rattle.std.proofs.Common.{◌≡◌, ℕ, zero, suc, ◌==◌, ◌⊎◌, true, List, [], ◌∷◌, Option, Some, None, option_and_then}
use Rattle.std.proofs.Common.{Contains, slice_get, refl, sym, ◌∙◌, inl, inr, ap, arith}
use Rattle.std.proofs.lemmas.Bool.{or_cases, cases_eq, eqb-true, eq-eqb, ne_eqb, cond-true, cond-false, false≢true}
use Rattle.std.proofs.lemmas.Option.{none-some, same_Some}
use Rattle.scev_base.specs.declared.ids.ValueId.{ValueId}
use Rattle.ir_model.specs.declared.types.IrType.{IrType}
use Rattle.ir_model.specs.declared.types.IrType.TheVariants.{Ptr}
use Rattle.ir_model.specs.declared.function.Param.{Param}
use Rattle.ir_model.specs.declared.function.Instr.{Instr}
use Rattle.ir_model.specs.declared.function.Function.{Function}
use Rattle.ir_model.specs.Places.{is_param}
use Rattle.ir_rules.specs.Types.{kind_of}
use Rattle.ir_memory.specs.Memory.{Memory}
use Rattle.ir_meaning.specs.declared.value.Value.{Value}
use Rattle.ir_meaning.specs.declared.value.Value.TheVariants as value
use Rattle.ir_meaning.specs.State.{Registers, set}
use Rattle.ir_meaning.specs.Values.{is_of_type, fits}
use Rattle.ir_meaning.specs.Step.{phi_value, with_phis}
use Rattle.ir_meaning.specs.Run.{GivesTo, ArgsFit, with_args}
use Rattle.never_stuck.proofs.Sound.{Holds}
use Rattle.never_stuck.proofs.Elements.{contains_more}

-- what may be handed in for a parameter is of its type
pub fit_typed : (memory : Memory) (kind : IrType) (x : Value) → fits memory kind x ≡ true → is_of_type kind x ≡ true
fit_typed memory Ptr (value.Pointer block offset) fit = refl
fit_typed memory _ _ fit = fit

module _ (f : Function) where
  -- A value is of the type of the result, where there is one.
  abbrev pub SuitsResult : Option ValueId → Value → Type 0
  SuitsResult result x = (v : ℕ) → result ≡ Some (record { 0 = v }) → is_of_type (kind_of f v) x ≡ true

  pub held_set : (registers : Registers) (result : Option ValueId) (x : Value) → SuitsResult result x → (v : ℕ)
      → Holds f registers v ⊎ (result ≡ Some (record { 0 = v })) → Holds f (set registers result x) v
  held_set registers None x suits v known =
      elim known [ inl held ↦ held | inr is ↦ absurd (none-some (record { 0 = v }) is) ]
  held_set registers (Some w) x suits v known =
      elim (cases_eq v w.0) [
        | inl e ↦
            record {
              value = x;
              set = cond-true (v == w.0) (Some x) (registers v) (eq-eqb v w.0 e);
              typed = suits v (ap (λ (k : ℕ). Some (record { 0 = k })) (sym e));
            }
        | inr apart ↦
            let other : set registers (Some w) x v ≡ registers v =
            cond-false (v == w.0) (Some x) (registers v) (ne_eqb v w.0 apart) in
            elim known [
              | inl held ↦ record { value = held.value; set = other ∙ held.set; typed = held.typed }
              | inr is ↦ absurd (apart (ap (λ (u : ValueId). u.0) (sym (same_Some w (record { 0 = v }) is))))
            ]
      ]

  -- ---- arguments

  module _ (memory : Memory) where
    pub held_args : (params : List Param) (args : List Value) (registers : Registers) → ArgsFit memory params args
        → ((p : Param) → Contains params p → kind_of f p.value.0 ≡ p.kind) → (v : ℕ)
        → Holds f registers v ⊎ (is_param params v ≡ true) → Holds f (with_args registers params args) v
    held_args [] [] registers fit typed v known =
        elim known [ inl held ↦ held | inr param ↦ absurd (false≢true param) ]
    held_args [] (x ∷ args) registers fit typed v known = absurd fit
    held_args (p ∷ params) [] registers fit typed v known = absurd fit
    held_args (p ∷ params) (x ∷ args) registers fit typed v known =
        let suits : SuitsResult (Some p.value) x =
        λ w is.
        let own : kind_of f w ≡ p.kind =
        ap (λ (u : ValueId). kind_of f u.0) (sym (same_Some p.value (record { 0 = w }) is))
        ∙ typed p (0, omega arith, refl) in
        rw own (fit_typed memory p.kind x fit.0) in
        held_args params args (set registers (Some p.value) x) fit.1
        (λ other there. typed other (contains_more p params other there)) v
        (elim known [
          | inl held ↦ inl (held_set registers (Some p.value) x suits v (inl held))
          | inr param ↦
              elim (or_cases (p.value.0 == v) (is_param params v) param) [
                | inl own ↦
                    inl (held_set registers (Some p.value) x suits v
                    (inr (ap (λ (k : ℕ). Some (record { 0 = k })) (eqb-true p.value.0 v own))))
                | inr later ↦ inr later
              ]
        ])

  -- ---- phis

  -- An instruction has a value as a phi, which is of the type of its result.
  pub record HasPhiValue (before : Registers) (n from : ℕ) (phi : Instr) : Type 0 where
    pub value : Value
    pub is : phi_value before n from phi.op ≡ Some value
    pub suits : SuitsResult phi.result value

  -- The register is the result of an instruction of the list.
  abbrev pub GivenIn : List Instr → ℕ → Type 0
  GivenIn instrs v = (k : ℕ) × (instr : Instr) × (slice_get instrs k ≡ Some instr) × GivesTo v instr

  given_first : (instr : Instr) (instrs : List Instr) (v : ℕ) → GivenIn (instr ∷ instrs) v
      → GivesTo v instr ⊎ GivenIn instrs v
  given_first instr instrs v (zero, other, at, gives) =
      inl (ap (λ (one : Instr). one.result) (same_Some instr other at) ∙ gives)
  given_first instr instrs v (suc k, other, at, gives) = inr (k, other, at, gives)

  module _ (before : Registers) (n from : ℕ) where
    -- so all phis of a list have values, and the registers hold their results
    pub held_phis : (instrs : List Instr)
        → ((k : ℕ) (phi : Instr) → slice_get instrs k ≡ Some phi → HasPhiValue before n from phi) → (after : Registers)
        → (registers : Registers) × (with_phis before n from instrs after ≡ Some registers)
        × ((v : ℕ) → Holds f after v ⊎ GivenIn instrs v → Holds f registers v)
    held_phis [] each after =
        (after, refl, λ v known. elim known [ inl held ↦ held | inr given ↦ absurd (none-some given.1 given.2) ])
    held_phis (instr ∷ instrs) each after =
        let first = each 0 instr refl in
        let rest = held_phis instrs (λ k phi at. each (suc k) phi at) (set after instr.result first.value) in (
          rest.0,
          ap (λ (o : Option Value).
              option_and_then (λ (x : Value). with_phis before n from instrs (set after instr.result x)) o) first.is
              ∙ rest.1,
          λ v known.
              rest.2 v (elim known [
                | inl held ↦ inl (held_set after instr.result first.value first.suits v (inl held))
                | inr given ↦
                    elim (given_first instr instrs v given) [
                      | inl here ↦ inl (held_set after instr.result first.value first.suits v (inr here))
                      | inr later ↦ inr later
                    ]
              ]),
        )
