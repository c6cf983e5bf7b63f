-- A value of an accepted function has the type of what gives it, since that is its one definition.
use Rattle.std.proofs.Common.{◌≡◌, ℕ, zero, suc, ◌==◌, ◌+◌, ◌<◌, ◌≤◌, true, false, cond, List, [], ◌∷◌, length, map}
use Rattle.std.proofs.Common.{flat_map, count_by, Option, Some, None, Contains, slice_get, unwrap_or, option_map, refl}
use Rattle.std.proofs.Common.{sym, ap, ◌∙◌, subst, inl, inr, arith}
use Rattle.std.proofs.lemmas.Bool.{cases_Bool, cond-true, eq-eqb}
use Rattle.std.proofs.lemmas.Option.{none-some, same_Some, slice_get_cases}
use Rattle.std.proofs.lemmas.List.Elements.{All-contains, Contains-append_left, Contains-append_right}
use Rattle.scev_base.specs.declared.ids.ValueId.{ValueId}
use Rattle.ir_model.specs.declared.types.IrType.{IrType}
use Rattle.ir_model.specs.declared.types.IrType.TheVariants.{Void}
use Rattle.ir_model.specs.declared.function.Param.{Param}
use Rattle.ir_model.specs.declared.function.Instr.{Instr}
use Rattle.ir_model.specs.declared.function.Block.{Block}
use Rattle.ir_model.specs.declared.function.Function.{Function}
use Rattle.ir_model.specs.declared.function.ValueInfo.{ValueInfo}
use Rattle.ir_model.specs.declared.signature.Signatures.{Signatures}
use Rattle.ir_model.specs.declared.rule.Place.TheVariants.{Value, BlockAt}
use Rattle.ir_model.specs.Defined.{given_type, is_value, or_else, param_type, instr_type, block_type, type_of}
use Rattle.ir_model.specs.Sites.{DefinesValue, DefinesBlock, result_sites, op_sites, instr_sites, block_sites}
use Rattle.ir_model.specs.Sites.{function_sites}
use Rattle.ir_model.specs.WellMade.{IsInTable, HasIds, IsWellMade}
use Rattle.ir_meaning.proofs.ListPlaces.{contained_at}
use Rattle.ir_rules.specs.Accepted.{IsAccepted}
use Rattle.ir_rules.specs.Names.{result_place, block_definitions}
use Rattle.ir_rules.specs.Types.{kind_of}
use Rattle.never_stuck.proofs.Accepted.{block_in}
use Rattle.never_stuck.proofs.DefinedOnce.{count_cons, count_append, count_yes, count_no, counted, is_of_value}
use Rattle.never_stuck.proofs.DefinedOnce.{param_places, result_places, block_places, value_once}
use Rattle.never_stuck.proofs.Elements.{contains_at, contains_more, map_has, flat_map_has}
use Rattle.never_stuck.proofs.Sound.{StandsIn}

-- ---- the type of a value's one definition

module _ (v : ℕ) where
  result_gives : (result : Option ValueId) → result ≡ Some (record { 0 = v }) → is_value result v ≡ true
  result_gives result is = rw is (eq-eqb v v refl)

  count_result : (result : Option ValueId) → count_by (is_of_value v) (result_place result)
      ≡ cond (is_value result v) 1 0
  count_result None = refl
  count_result (Some w) = omega (arith, count_cons (is_of_value v) (Value w) [])

  count_instrs : (instr : Instr) (instrs : List Instr)
      → count_by (is_of_value v) (result_places (instr ∷ instrs))
      ≡ cond (is_value instr.result v) 1 0 + count_by (is_of_value v) (result_places instrs)
  count_instrs instr instrs =
      count_append (is_of_value v) (result_place instr.result) (result_places instrs)
      ∙ ap (λ (n : ℕ). n + count_by (is_of_value v) (result_places instrs)) (count_result instr.result)

  count_blocks : (block : Block) (blocks : List Block)
      → count_by (is_of_value v) (block_places (block ∷ blocks))
      ≡ count_by (is_of_value v) (result_places block.instrs) + count_by (is_of_value v) (block_places blocks)
  count_blocks block blocks =
      count_append (is_of_value v) (block_definitions block) (block_places blocks)
      ∙ ap (λ (n : ℕ). n + count_by (is_of_value v) (block_places blocks))
      (count_no (is_of_value v) (BlockAt block.id) (result_places block.instrs) refl)

  -- what gives the value counts
  given_in : (instrs : List Instr) (i : ℕ) (instr : Instr) → slice_get instrs i ≡ Some instr
      → is_value instr.result v ≡ true → 0 < count_by (is_of_value v) (result_places instrs)
  given_in [] i instr at gives = absurd (none-some instr at)
  given_in (first ∷ instrs) zero instr at gives =
      let here : is_value first.result v ≡ true = ap (λ (one : Instr). is_value one.result v)
      (same_Some first instr at) ∙ gives in
      omega (arith, count_instrs first instrs, cond-true {A = ℕ} (is_value first.result v) 1 0 here)
  given_in (first ∷ instrs) (suc i) instr at gives =
      omega (arith, count_instrs first instrs, given_in instrs i instr at gives)

  given_among : (blocks : List Block) (k : ℕ) (block : Block) → slice_get blocks k ≡ Some block
      → (i : ℕ) (instr : Instr) → slice_get block.instrs i ≡ Some instr → is_value instr.result v ≡ true
      → 0 < count_by (is_of_value v) (block_places blocks)
  given_among [] k block in_it i instr at gives = absurd (none-some block in_it)
  given_among (first ∷ blocks) zero block in_it i instr at gives =
      let same = ap (λ (one : Block). count_by (is_of_value v) (result_places one.instrs))
      (same_Some first block in_it) in
      omega (arith, count_blocks first blocks, same, given_in block.instrs i instr at gives)
  given_among (first ∷ blocks) (suc k) block in_it i instr at gives =
      omega (arith, count_blocks first blocks, given_among blocks k block in_it i instr at gives)

  -- what isn't given has no type
  not_given : (instr : Instr) (instrs : List Instr) → count_by (is_of_value v) (result_places (instr ∷ instrs)) ≡ 0
      → (is_value instr.result v ≡ false) × (count_by (is_of_value v) (result_places instrs) ≡ 0)
  not_given instr instrs none =
      elim (cases_Bool (is_value instr.result v)) [
        | inl gives ↦
            absurd (omega (
              arith,
              count_instrs instr instrs,
              cond-true {A = ℕ} (is_value instr.result v) 1 0 gives,
              none,
            ))
        | inr other ↦ (other, omega (arith, count_instrs instr instrs, none))
      ]

  no_param_type : (params : List Param) → count_by (is_of_value v) (param_places params) ≡ 0
      → param_type params v ≡ None
  no_param_type [] none = refl
  no_param_type (p ∷ params) none =
      elim (cases_Bool (p.value.0 == v)) [
        | inl is ↦ absurd (omega (arith, count_yes (is_of_value v) (Value p.value) (param_places params) is, none))
        | inr other ↦
            rw other (no_param_type params
            (sym (count_no (is_of_value v) (Value p.value) (param_places params) other) ∙ none))
      ]

  no_instr_type : (instrs : List Instr) → count_by (is_of_value v) (result_places instrs) ≡ 0
      → instr_type instrs v ≡ None
  no_instr_type [] none = refl
  no_instr_type (instr ∷ instrs) none =
      let parts = not_given instr instrs none in
      rw parts.0 (no_instr_type instrs parts.1)

  one_param_type : (params : List Param) (k : ℕ) (p : Param) → count_by (is_of_value v) (param_places params) ≤ 1
      → slice_get params k ≡ Some p → p.value.0 ≡ v → param_type params v ≡ Some p.kind
  one_param_type [] k p once at is = absurd (none-some p at)
  one_param_type (first ∷ params) zero p once at is =
      let same = same_Some first p at in
      let here : (first.value.0 == v) ≡ true = eq-eqb first.value.0 v (ap (λ (q : Param). q.value.0) same ∙ is) in
      rw here (ap (λ (q : Param). Some q.kind) same)
  one_param_type (first ∷ params) (suc k) p once at is =
      let later = counted (is_of_value v) (param_places params) (Value p.value)
      (map_has (λ (q : Param). Value q.value) params p (contains_at params k p at)) (eq-eqb p.value.0 v is) in
      elim (cases_Bool (first.value.0 == v)) [
        | inl here ↦
            absurd (omega (
              arith,
              count_yes (is_of_value v) (Value first.value) (param_places params) here,
              later,
              once,
            ))
        | inr other ↦
            let rest = count_no (is_of_value v) (Value first.value) (param_places params) other in
            rw other (one_param_type params k p (omega (arith, rest, once)) at is)
      ]

  one_instr_type : (instrs : List Instr) (i : ℕ) (instr : Instr)
      → count_by (is_of_value v) (result_places instrs) ≤ 1
      → slice_get instrs i ≡ Some instr → is_value instr.result v ≡ true
      → instr_type instrs v ≡ Some (given_type instr.op)
  one_instr_type [] i instr once at gives = absurd (none-some instr at)
  one_instr_type (first ∷ instrs) zero instr once at gives =
      let same = same_Some first instr at in
      let here : is_value first.result v ≡ true = ap (λ (one : Instr). is_value one.result v) same ∙ gives in
      rw here (ap (λ (one : Instr). Some (given_type one.op)) same)
  one_instr_type (first ∷ instrs) (suc i) instr once at gives =
      let later = given_in instrs i instr at gives in
      elim (cases_Bool (is_value first.result v)) [
        | inl here ↦
            absurd (omega (
              arith,
              count_instrs first instrs,
              cond-true {A = ℕ} (is_value first.result v) 1 0 here,
              later,
              once,
            ))
        | inr other ↦
            rw other (one_instr_type instrs i instr (omega (arith, count_instrs first instrs, once)) at gives)
      ]

  one_block_type : (blocks : List Block) (k : ℕ) (block : Block) → slice_get blocks k ≡ Some block
      → count_by (is_of_value v) (block_places blocks) ≤ 1 → (i : ℕ) (instr : Instr)
      → slice_get block.instrs i ≡ Some instr → is_value instr.result v ≡ true
      → block_type blocks v ≡ Some (given_type instr.op)
  one_block_type [] k block in_it once i instr at gives = absurd (none-some block in_it)
  one_block_type (first ∷ blocks) zero block in_it once i instr at gives =
      let same = same_Some first block in_it in
      let own : slice_get first.instrs i ≡ Some instr = ap (λ (one : Block). slice_get one.instrs i) same ∙ at in
      ap (λ (kind : Option IrType). or_else kind (block_type blocks v))
      (one_instr_type first.instrs i instr (omega (arith, count_blocks first blocks, once)) own gives)
  one_block_type (first ∷ blocks) (suc k) block in_it once i instr at gives =
      let later = given_among blocks k block in_it i instr at gives in
      let none = no_instr_type first.instrs (omega (arith, count_blocks first blocks, later, once)) in
      ap (λ (kind : Option IrType). or_else kind (block_type blocks v)) none
      ∙ one_block_type blocks k block in_it (omega (arith, count_blocks first blocks, once)) i instr at gives

-- ---- the table of values

kind_at : (f : Function) (v : ℕ) (info : ValueInfo) → slice_get f.values v ≡ Some info → kind_of f v ≡ info.kind
kind_at f v info at = ap (λ (o : Option ValueInfo). unwrap_or (option_map (λ (i : ValueInfo). i.kind) o) Void) at

-- the table has the type of the first definition
table_kind : (f : Function) → IsWellMade f → (v : ℕ) → v < length f.values
    → kind_of f v ≡ unwrap_or (or_else (param_type f.params v) (block_type f.blocks v)) Void
unfolding type_of
table_kind f made v within =
    elim (slice_get_cases f.values v).1 [
      | inl there ↦ kind_at f v there.0 there.2 ∙ made.types v there.0 there.2
      | inr past ↦ absurd (omega (arith, past.0, within))
    ]

param_within : (f : Function) → HasIds f → (p : Param) → Contains f.params p → p.value.0 < length f.values
unfolding HasIds
param_within f ids p there =
    All-contains (IsInTable f) (function_sites f) (DefinesValue p.value.0) ids
    (Contains-append_left (map (λ (q : Param). DefinesValue q.value.0) f.params) (flat_map block_sites f.blocks)
    (DefinesValue p.value.0) (map_has (λ (q : Param). DefinesValue q.value.0) f.params p there))

result_within : (f : Function) → HasIds f → (block : Block) → Contains f.blocks block → (instr : Instr)
    → Contains block.instrs instr → (v : ℕ) → instr.result ≡ Some (record { 0 = v }) → v < length f.values
unfolding HasIds
result_within f ids block in_it instr there v gives =
    let site = DefinesValue v in
    let result : Contains (result_sites instr.result) site =
    subst (λ (r : Option ValueId). Contains (result_sites r) site) (sym gives) (0, omega arith, refl) in
    let own : Contains (instr_sites instr) site =
    Contains-append_left (result_sites instr.result) (op_sites instr.op) site result in
    let among : Contains (block_sites block) site =
    contains_more (DefinesBlock block.id.0) (flat_map instr_sites block.instrs) site
    (flat_map_has instr_sites block.instrs instr site there own) in
    All-contains (IsInTable f) (function_sites f) site ids
    (Contains-append_right (map (λ (q : Param). DefinesValue q.value.0) f.params) (flat_map block_sites f.blocks)
    site (flat_map_has block_sites f.blocks block site in_it among))

-- ---- what holds of an accepted function

module _ (signatures : Signatures) (f : Function) (made : IsWellMade f) (accepted : IsAccepted signatures f) where
  pub result_typed : (b i : ℕ) (block : Block) (instr : Instr) (v : ℕ) → StandsIn f b i block instr
      → instr.result ≡ Some (record { 0 = v }) → kind_of f v ≡ given_type instr.op
  result_typed b i block instr v stands gives =
      let in_it = (block_in f b block stands.block).0 in
      let at = contained_at f.blocks block in_it in
      let is = result_gives v instr.result gives in
      let some = given_among v f.blocks at.0 block at.1 i instr stands.instr is in
      let once = value_once signatures f accepted v in
      let no_param = no_param_type v f.params (omega (arith, some, once)) in
      let given = one_block_type v f.blocks at.0 block at.1 (omega (arith, once)) i instr stands.instr is in
      let within = result_within f made.ids block in_it instr (contains_at block.instrs i instr stands.instr) v gives in
      table_kind f made v within
      ∙ ap (λ (kind : Option IrType). unwrap_or (or_else kind (block_type f.blocks v)) Void) no_param
      ∙ ap (λ (kind : Option IrType). unwrap_or kind Void) given

  pub param_typed : (p : Param) → Contains f.params p → kind_of f p.value.0 ≡ p.kind
  param_typed p there =
      let at = contained_at f.params p there in
      let once = value_once signatures f accepted p.value.0 in
      table_kind f made p.value.0 (param_within f made.ids p there)
      ∙ ap (λ (kind : Option IrType). unwrap_or (or_else kind (block_type f.blocks p.value.0)) Void)
      (one_param_type p.value.0 f.params at.0 p (omega (arith, once)) at.1 refl)
