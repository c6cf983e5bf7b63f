-- What a walk of an accepted function has passed where a value is used, and which uses its instructions have.
use Rattle.std.proofs.Common.{◌≡◌, ℕ, zero, suc, ◌+◌, ◌<◌, ◌⊎◌, Bool, true, false, List, [], ◌∷◌, map, flat_map, Option}
use Rattle.std.proofs.Common.{Some, None, Contains, slice_get, refl, sym, ◌∙◌, inl, inr, subst, arith}
use Rattle.std.proofs.lemmas.Bool.{cases_eq, cases_lt, both_ways, false≢true}
use Rattle.std.proofs.lemmas.Option.{none-some, same_Some, some_pair_parts}
use Rattle.std.proofs.lemmas.List.Elements.{Contains-append_left, Contains-append_right}
use Rattle.scev_base.specs.declared.ids.BlockId.{BlockId}
use Rattle.ir_model.specs.declared.types.IrType.{IrType}
use Rattle.ir_model.specs.declared.op.Operand.{Operand}
use Rattle.ir_model.specs.declared.op.Operand.TheVariants as operand
use Rattle.ir_model.specs.declared.op.PhiEntry.{PhiEntry}
use Rattle.ir_model.specs.declared.op.Op.{Op}
use Rattle.ir_model.specs.declared.op.Op.TheVariants.{Phi}
use Rattle.ir_model.specs.declared.function.Instr.{Instr}
use Rattle.ir_model.specs.declared.function.Block.{Block}
use Rattle.ir_model.specs.declared.function.Function.{Function}
use Rattle.ir_model.specs.Places.{is_param, place_of}
use Rattle.ir_model.specs.Shapes.{operands, register_of, is_phi}
use Rattle.ir_model.specs.Walks.{Trail}
use Rattle.ir_rules.specs.Uses.{Use, size_of, op_uses, uses_from, uses, HasPassed, UsesAreDefined}
use Rattle.ir_meaning.proofs.ListPlaces.{contained_at}
use Rattle.never_stuck.proofs.Sound.{StandsIn}
use Rattle.never_stuck.proofs.Accepted.{block_in}
use Rattle.never_stuck.proofs.Elements.{map_has, flat_map_has, contains_or_not}

-- ---- whether a walk has passed a value

same_or_not : (a b i index : ℕ) → ((a ≡ b) × (i < index)) ⊎ ((a ≡ b) × (i < index) → ⊥)
same_or_not a b i index =
    elim (cases_eq a b) [
      | inl same ↦
          elim (cases_lt i index) [
            | inl behind ↦ inl (same, behind)
            | inr before ↦ inr (λ both. omega (arith, both.1))
          ]
      | inr apart ↦ inr (λ both. apart both.0)
    ]

module _ (f : Function) (v : ℕ) (before : List ℕ) (b index : ℕ) where
  not_passed : (at : BlockId) (i : ℕ) → place_of f v ≡ Some (at, i) → (is_param f.params v ≡ true → ⊥)
      → (Contains before at.0 → ⊥) → ((at.0 ≡ b) × (i < index) → ⊥) → HasPassed f v before b index → ⊥
  not_passed at i is other not_before not_here passed =
      elim passed [
        | inl param ↦ other param
        | inr there ↦
            let same = some_pair_parts at there.0 i there.1 (sym is ∙ there.2) in
            elim there.3 [
              | inl earlier ↦ not_before (rw same.0 earlier)
              | inr here ↦ not_here (rw (same.0, same.1) here)
            ]
      ]

  placed_or_not : (o : Option (BlockId × ℕ)) → place_of f v ≡ o → (is_param f.params v ≡ true → ⊥)
      → HasPassed f v before b index ⊎ (HasPassed f v before b index → ⊥)
  placed_or_not None none other =
      inr (λ passed.
      elim passed [ inl param ↦ other param | inr there ↦ none-some (there.0, there.1) (sym none ∙ there.2) ])
  placed_or_not (Some (at, i)) is other =
      elim (contains_or_not before at.0) [
        | inl earlier ↦ inl (inr (at, i, is, inl earlier))
        | inr not_before ↦
            elim (same_or_not at.0 b i index) [
              | inl here ↦ inl (inr (at, i, is, inr here))
              | inr not_here ↦ inr (not_passed at i is other not_before not_here)
            ]
      ]

  by_param : (param : Bool) → is_param f.params v ≡ param
      → HasPassed f v before b index ⊎ (HasPassed f v before b index → ⊥)
  by_param true is = inl (inl is)
  by_param false is = placed_or_not (place_of f v) refl (λ param. both_ways (is_param f.params v) is param)

  pub passed_or_not : HasPassed f v before b index ⊎ (HasPassed f v before b index → ⊥)
  passed_or_not = by_param (is_param f.params v) refl

pub use_passed : (f : Function) → UsesAreDefined f → (use_ : Use) → Contains (uses f) use_ → (before : List ℕ)
    → Trail f (use_.block ∷ before) → HasPassed f use_.value before use_.block use_.index
use_passed f defined use_ there before trail =
    elim (passed_or_not f use_.value before use_.block use_.index) [
      | inl passed ↦ passed
      | inr not ↦
          let at = contained_at (uses f) use_ there in
          absurd (defined at.0 use_ at.1 (before, trail, not))
    ]

-- ---- the uses of an instruction

-- those of an instruction of a list, at its place
uses_at : (f : Function) (b from : ℕ) (instrs : List Instr) (k : ℕ) (instr : Instr) (use_ : Use)
    → slice_get instrs k ≡ Some instr → Contains (op_uses f b (from + k) instr.op) use_
    → Contains (uses_from f b from instrs) use_
uses_at f b from [] k instr use_ at there = absurd (none-some instr at)
uses_at f b from (first ∷ instrs) zero instr use_ at there =
    let same : first ≡ instr = same_Some first instr at in
    let here : from + 0 ≡ from = omega arith in
    Contains-append_left (op_uses f b from first.op) (uses_from f b (suc from) instrs) use_
    (subst (λ (one : Instr). Contains (op_uses f b from one.op) use_) (sym same)
    (subst (λ (n : ℕ). Contains (op_uses f b n instr.op) use_) here there))
uses_at f b from (first ∷ instrs) (suc k) instr use_ at there =
    let behind : from + suc k ≡ suc from + k = omega arith in
    Contains-append_right (op_uses f b from first.op) (uses_from f b (suc from) instrs) use_
    (uses_at f b (suc from) instrs k instr use_ at
    (subst (λ (n : ℕ). Contains (op_uses f b n instr.op) use_) behind there))

zero_plus : (i : ℕ) → i ≡ 0 + i
zero_plus i = omega arith

-- an operation that is no phi reads its operands where it stands
plain_uses : (f : Function) (b i : ℕ) (op : Op) → is_phi op ≡ false
    → op_uses f b i op ≡ map (λ (v : ℕ). record { value = v; user = b; block = b; index = i })
    (flat_map register_of (operands op))
plain_uses f b i (Phi kind entries) none = absurd (false≢true (sym none))
plain_uses f b i _ none = refl

-- what a phi reads for one entry
abbrev entry_uses : Function → ℕ → PhiEntry → List Use
entry_uses f b entry =
    map (λ (v : ℕ). record { value = v; user = b; block = entry.from.0; index = size_of f entry.from.0 })
    (register_of entry.value)

-- and so of an instruction of a block of the function
instr_uses : (f : Function) (b i : ℕ) (block : Block) (instr : Instr) (use_ : Use) → StandsIn f b i block instr
    → Contains (op_uses f b i instr.op) use_ → Contains (uses f) use_
instr_uses f b i block instr use_ stands there =
    let found = block_in f b block stands.block in
    flat_map_has (λ (one : Block). uses_from f one.id.0 0 one.instrs) f.blocks block use_ found.0
    (subst (λ (n : ℕ). Contains (uses_from f n 0 block.instrs) use_) (sym found.1)
    (uses_at f b 0 block.instrs i instr use_ stands.instr
    (subst (λ (n : ℕ). Contains (op_uses f b n instr.op) use_) (zero_plus i) there)))

pub operand_use : (f : Function) (b i : ℕ) (block : Block) (instr : Instr) (v : ℕ) → StandsIn f b i block instr
    → is_phi instr.op ≡ false → Contains (operands instr.op) (operand.Reg (record { 0 = v }))
    → Contains (uses f) (record { value = v; user = b; block = b; index = i })
operand_use f b i block instr v stands no_phi there =
    let use_of : ℕ → Use = λ v. record { value = v; user = b; block = b; index = i } in
    let read : Contains (flat_map register_of (operands instr.op)) v =
    flat_map_has register_of (operands instr.op) (operand.Reg (record { 0 = v })) v there (0, omega arith, refl) in
    instr_uses f b i block instr (use_of v) stands
    (subst (λ (found : List Use). Contains found (use_of v)) (sym (plain_uses f b i instr.op no_phi))
    (map_has use_of (flat_map register_of (operands instr.op)) v read))

pub phi_use : (f : Function) (b i : ℕ) (block : Block) (instr : Instr) (kind : IrType) (entries : List PhiEntry)
    (entry : PhiEntry) (v : ℕ) → StandsIn f b i block instr → instr.op ≡ Phi kind entries → Contains entries entry
    → entry.value ≡ operand.Reg (record { 0 = v })
    → Contains (uses f) (record { value = v; user = b; block = entry.from.0; index = size_of f entry.from.0 })
phi_use f b i block instr kind entries entry v stands is there reads =
    let use_of : ℕ → Use =
    λ v. record { value = v; user = b; block = entry.from.0; index = size_of f entry.from.0 } in
    let read : Contains (entry_uses f b entry) (use_of v) =
    map_has use_of (register_of entry.value) v
    (subst (λ (o : Operand). Contains (register_of o) v) (sym reads) (0, omega arith, refl)) in
    instr_uses f b i block instr (use_of v) stands
    (subst (λ (op : Op). Contains (op_uses f b i op) (use_of v)) (sym is)
    (flat_map_has (entry_uses f b) entries entry (use_of v) there read))
