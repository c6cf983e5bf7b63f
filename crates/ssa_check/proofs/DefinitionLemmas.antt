-- Tables of definitions, filled from the last definition back.
use Rattle.std.proofs.Common.{◌≡◌, ◌+◌, ◌<◌, ℕ, suc, Bool, true, false, cond, if◌then◌else◌, List, [], ◌∷◌, length}
use Rattle.std.proofs.Common.{get_or, set, map, flat_map, position, Option, Some, None, option_map, All, refl, sym, ap}
use Rattle.std.proofs.Common.{◌∙◌, subst, inl, inr, arith, length-set, get_or-set_same, get_or-set_other}
use Rattle.std.proofs.lemmas.Bool.{cases_eq, eq-eqb, ne_eqb}
use Rattle.std.proofs.lemmas.List.Elements.{All-nil, All-cons, All-head, All-tail, All-get_or}
use Rattle.std.proofs.lemmas.Grind.{common_steps}
use Rattle.flow_graph.proofs.IdLemmas.{all_left, all_right}
use Rattle.scev_base.specs.declared.ids.BlockId.{BlockId}
use Rattle.scev_base.specs.declared.ids.ValueId.{ValueId}
use Rattle.ir_model.specs.declared.function.Param.{Param}
use Rattle.ir_model.specs.declared.function.Instr.{Instr}
use Rattle.ir_model.specs.declared.function.Block.{Block}
use Rattle.ir_model.specs.declared.function.Function.{Function}
use Rattle.ir_model.specs.Defined.{is_value}
use Rattle.ir_model.specs.Places.{in_block, given_at, is_param}
use Rattle.ir_model.specs.Shapes.{result_of}
use Rattle.ir_model.specs.Sites.{DefinesValue, DefinesBlock, result_sites, op_sites, instr_sites, block_sites}
use Rattle.ir_model.specs.WellMade.{IsInTable, HasIds}
use Rattle.ssa_check.specs.declared.definitions.Definition.{Definition}
use Rattle.ssa_check.specs.declared.definitions.Definition.TheVariants.{Nowhere, Parameter, At}
use Rattle.ssa_check.specs.Tables.{at_place, AreWithin}

-- the index of the first instruction that gives a value
abbrev pub given_in : List Instr → ℕ → Option ℕ
given_in instrs v = position (λ (instr : Instr). is_value instr.result v) instrs

-- ---- values in the table

pub result_within : (bound : ℕ) (instrs : List Instr) → AreWithin bound instrs → (i : ℕ) (instr : Instr)
    → i < length instrs
    → instr ≡ get_or instrs i instr → (v : ValueId) → instr.result ≡ Some v → v.0 < bound
result_within bound instrs all i instr within is v given =
    let own = All-get_or (λ (one : Instr). All (λ v. v < bound) (result_of one.result)) instrs i instr within all in
    let there : All (λ v. v < bound) (result_of instr.result) = rw (← is) at own in
    All-head (λ v. v < bound) v.0 [] (subst (λ (r : Option ValueId). All (λ v. v < bound) (result_of r)) given there)

module _ (f : Function) where
  sites_within : (result : Option ValueId) → All (IsInTable f) (result_sites result)
      → All (λ v. v < length f.values) (result_of result)
  sites_within None h = All-nil (λ v. v < length f.values)
  sites_within (Some v) h =
      let P : ℕ → Type 0 = λ v. v < length f.values in
      All-cons P v.0 [] (All-head (IsInTable f) (DefinesValue v.0) [] h) (All-nil P)

  instrs_within : (instrs : List Instr) → All (IsInTable f) (flat_map instr_sites instrs)
      → AreWithin (length f.values) instrs
  instrs_within [] h = All-nil (λ (instr : Instr). All (λ v. v < length f.values) (result_of instr.result))
  instrs_within (instr ∷ instrs) h =
      let more = flat_map instr_sites instrs in
      let own = all_left (IsInTable f) (instr_sites instr) more h in
      All-cons (λ (instr : Instr). All (λ v. v < length f.values) (result_of instr.result)) instr instrs
      (sites_within instr.result (all_left (IsInTable f) (result_sites instr.result) (op_sites instr.op) own))
      (instrs_within instrs (all_right (IsInTable f) (instr_sites instr) more h))

  blocks_within : (blocks : List Block) → All (IsInTable f) (flat_map block_sites blocks)
      → All (λ (block : Block). AreWithin (length f.values) block.instrs) blocks
  blocks_within [] h = All-nil (λ (block : Block). AreWithin (length f.values) block.instrs)
  blocks_within (block ∷ blocks) h =
      let more = flat_map block_sites blocks in
      let own = all_left (IsInTable f) (block_sites block) more h in
      All-cons (λ (block : Block). AreWithin (length f.values) block.instrs) block blocks
      (instrs_within block.instrs (All-tail (IsInTable f) (DefinesBlock block.id.0)
      (flat_map instr_sites block.instrs) own))
      (blocks_within blocks (all_right (IsInTable f) (block_sites block) more h))

  params_within : (params : List Param) → All (IsInTable f) (map (λ (p : Param). DefinesValue p.value.0) params)
      → All (λ (p : Param). p.value.0 < length f.values) params
  params_within [] h = All-nil (λ (p : Param). p.value.0 < length f.values)
  params_within (p ∷ params) h =
      let more = map (λ (p : Param). DefinesValue p.value.0) params in
      All-cons (λ (p : Param). p.value.0 < length f.values) p params
      (All-head (IsInTable f) (DefinesValue p.value.0) more h)
      (params_within params (All-tail (IsInTable f) (DefinesValue p.value.0) more h))

  -- the values that are defined stand in the table
  pub defined_in_table : HasIds f → All (λ (block : Block). AreWithin (length f.values) block.instrs) f.blocks
  unfolding HasIds
  defined_in_table ids =
      blocks_within f.blocks
      (all_right (IsInTable f) (map (λ (p : Param). DefinesValue p.value.0) f.params)
      (flat_map block_sites f.blocks) ids)

  pub params_in_table : HasIds f → All (λ (p : Param). p.value.0 < length f.values) f.params
  unfolding HasIds
  params_in_table ids =
      params_within f.params
      (all_left (IsInTable f) (map (λ (p : Param). DefinesValue p.value.0) f.params)
      (flat_map block_sites f.blocks) ids)

-- ---- the instructions of a block

-- The instructions of a block behind so many are noted.
pub record IsNoted (b : BlockId) (behind : ℕ) (instrs : List Instr) (old new : List Definition) : Type 0 where
  pub size : length new ≡ length old
  pub noted : (v : ℕ) (later : Option (BlockId × ℕ)) → get_or old v Nowhere ≡ at_place later
      → get_or new v Nowhere ≡ at_place (in_block b (option_map (λ i. behind + i) (given_in instrs v)) later)

pub position_cons : {X : Type 0} (p : X → Bool) (x : X) (xs : List X)
    → position p (x ∷ xs) ≡ cond (p x) (Some 0) (option_map suc (position p xs))
position_cons p x xs = grind (arith, common_steps)

option_map_twice : (f g h : ℕ → ℕ) → ((i : ℕ) → f (g i) ≡ h i) → (o : Option ℕ)
    → option_map f (option_map g o) ≡ option_map h o
option_map_twice f g h same None = refl
option_map_twice f g h same (Some i) = ap Some (same i)

module _ (b : BlockId) (behind : ℕ) (old : List Definition) where
  pub noted_none : IsNoted b behind [] old old
  noted_none = record { size = refl; noted = λ v later is. is }

  -- what one more instruction, in front of the others, gives
  in_front : (instr : Instr) (instrs : List Instr) (v : ℕ) (gives : Bool) → is_value instr.result v ≡ gives
      → option_map (λ i. behind + i) (given_in (instr ∷ instrs) v)
      ≡ cond gives (Some behind) (option_map (λ i. (behind + 1) + i) (given_in instrs v))
  in_front instr instrs v true e =
      ap (option_map (λ i. behind + i)) (position_cons (λ (instr : Instr). is_value instr.result v) instr instrs
      ∙ ap (λ (t : Bool). cond t (Some 0) (option_map suc (given_in instrs v))) e)
      ∙ ap Some (omega arith)
  in_front instr instrs v false e =
      ap (option_map (λ i. behind + i)) (position_cons (λ (instr : Instr). is_value instr.result v) instr instrs
      ∙ ap (λ (t : Bool). cond t (Some 0) (option_map suc (given_in instrs v))) e)
      ∙ option_map_twice (λ i. behind + i) suc (λ i. (behind + 1) + i) (λ i. omega arith) (given_in instrs v)

  pub noted_skip : (new : List Definition) (instr : Instr) (instrs : List Instr) → instr.result ≡ None
      → IsNoted b (behind + 1) instrs old new → IsNoted b behind (instr ∷ instrs) old new
  noted_skip new instr instrs none before = record {
    size = before.size;
    noted = λ v later is.
        let e = in_front instr instrs v false (ap (λ (r : Option ValueId). is_value r v) none) in
        before.noted v later is ∙ ap (λ (o : Option ℕ). at_place (in_block b o later)) (sym e);
  }

  pub noted_more : (new : List Definition) (instr : Instr) (instrs : List Instr) (given : ValueId)
      → instr.result ≡ Some given
      → given.0 < length new → IsNoted b (behind + 1) instrs old new
      → IsNoted b behind (instr ∷ instrs) old (set new given.0 (At b behind))
  noted_more new instr instrs given is_given within before = record {
    size = length-set new given.0 (At b behind) ∙ before.size;
    noted = λ v later is.
        elim (cases_eq v given.0) [
          | inl e ↦
              let gives : is_value instr.result v ≡ true =
              ap (λ (r : Option ValueId). is_value r v) is_given ∙ eq-eqb given.0 v (sym e) in
              let front = in_front instr instrs v true gives in
              ap (λ (k : ℕ). get_or (set new given.0 (At b behind)) k Nowhere) e
              ∙ get_or-set_same new given.0 (At b behind) Nowhere within
              ∙ ap (λ (o : Option ℕ). at_place (in_block b o later)) (sym front)
          | inr apart ↦
              let gives : is_value instr.result v ≡ false =
              ap (λ (r : Option ValueId). is_value r v) is_given ∙ ne_eqb given.0 v (λ e. apart (sym e)) in
              let front = in_front instr instrs v false gives in
              get_or-set_other new given.0 v (At b behind) Nowhere apart ∙ before.noted v later is
              ∙ ap (λ (o : Option ℕ). at_place (in_block b o later)) (sym front)
        ];
  }

option_map_none : (o : Option ℕ) → option_map (λ i. 0 + i) o ≡ o
option_map_none None = refl
option_map_none (Some i) = ap Some (omega arith)

pub noted_all : (b : BlockId) (instrs : List Instr) (old new : List Definition) → IsNoted b 0 instrs old new
    → (v : ℕ) (later : Option (BlockId × ℕ)) → get_or old v Nowhere ≡ at_place later
    → get_or new v Nowhere ≡ at_place (in_block b (given_in instrs v) later)
noted_all b instrs old new is v later before =
    is.noted v later before ∙ ap (λ (o : Option ℕ). at_place (in_block b o later)) (option_map_none (given_in instrs v))

-- ---- blocks

-- The definitions of some blocks are noted.
pub record AreNoted (count : ℕ) (blocks : List Block) (table : List Definition) : Type 0 where
  pub size : length table ≡ count
  pub noted : (v : ℕ) → get_or table v Nowhere ≡ at_place (given_at blocks v)

pub are_noted_more : (count : ℕ) (block : Block) (blocks : List Block) (old new : List Definition)
    → length new ≡ length old
    → ((v : ℕ) (later : Option (BlockId × ℕ)) → get_or old v Nowhere ≡ at_place later
    → get_or new v Nowhere ≡ at_place (in_block block.id (given_in block.instrs v) later))
    → AreNoted count blocks old → AreNoted count (block ∷ blocks) new
are_noted_more count block blocks old new size noted before = record {
  size = size ∙ before.size;
  noted = λ v. noted v (given_at blocks v) (before.noted v);
}

-- ---- parameters

-- The parameters are noted.
pub record AreParams (params : List Param) (old new : List Definition) : Type 0 where
  pub size : length new ≡ length old
  pub noted : (v : ℕ) → get_or new v Nowhere ≡ (if is_param params v then Parameter else get_or old v Nowhere)
