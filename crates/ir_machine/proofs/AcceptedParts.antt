-- What the parts of an accepted function are to a machine: of types that it holds, with results in its table, phis
-- whose entries from one block have one operand, and blocks of which no two have one number.
use Rattle.std.specs.Prelude.{◌≡◌, ◌≢◌, ℕ, ◌<◌, ◌≤◌, ◌&&◌, nat_le, true, Bool, List, [], ◌∷◌, length, map, flat_map}
use Rattle.std.specs.Prelude.{count_by, Option, Some, None, All, AllPairs, Contains, slice_get, refl}
use Rattle.std.specs.List.{list_all}
use Rattle.std.proofs.Common.{get_or, sym, ◌∙◌, arith}
use Rattle.std.proofs.lemmas.Bool.{and_parts, leb-true, eq-eqb}
use Rattle.std.proofs.lemmas.Option.{slice_get-get_or}
use Rattle.std.proofs.lemmas.List.Elements.{All-contains, All-weaker, Contains-get_or, Contains-append_left}
use Rattle.std.proofs.lemmas.List.Elements.{Contains-append_right}
use Rattle.std.proofs.lemmas.List.Kept.{AllPairs-cons}
use Rattle.std.proofs.lemmas.List.Sums.{AllPass-from_list_all}
use Rattle.scev_base.specs.declared.ids.ValueId.{ValueId}
use Rattle.ir_model.specs.declared.types.IrType.{IrType}
use Rattle.ir_model.specs.declared.types.IrType.TheVariants.{Int}
use Rattle.ir_model.specs.declared.op.Case.{Case}
use Rattle.ir_model.specs.declared.op.PhiEntry.{PhiEntry}
use Rattle.ir_model.specs.declared.op.TypedOperand.{TypedOperand}
use Rattle.ir_model.specs.declared.op.Op.{Op}
use Rattle.ir_model.specs.declared.op.Op.TheVariants.{Binary, Icmp, Cast, Select, Phi, Freeze, Load, Store, Gep, Call}
use Rattle.ir_model.specs.declared.op.Op.TheVariants.{Switch, Ret}
use Rattle.ir_model.specs.declared.function.Param.{Param}
use Rattle.ir_model.specs.declared.function.Instr.{Instr}
use Rattle.ir_model.specs.declared.function.Block.{Block}
use Rattle.ir_model.specs.declared.function.Function.{Function}
use Rattle.ir_model.specs.declared.rule.Place.TheVariants.{BlockAt}
use Rattle.ir_model.specs.Shapes.{block_of, defined_blocks, leading_phis}
use Rattle.ir_model.specs.Sites.{Site, DefinesValue, DefinesBlock, result_sites, op_sites, instr_sites, block_sites}
use Rattle.ir_model.specs.Sites.{function_sites}
use Rattle.ir_model.specs.WellMade.{IsInTable, HasIds}
use Rattle.ir_rules.specs.Blocks.{incoming, same_numbers, entries_agree, entries_fit}
use Rattle.ir_rules.specs.Names.{block_definitions}
use Rattle.ir_rules.specs.Types.{is_wide, is_whole, converts, widths_fit}
use Rattle.ir_meaning.proofs.LeadingPhis.{leading_at}
use Rattle.never_stuck.proofs.Sound.{StandsIn}
use Rattle.never_stuck.proofs.Accepted.{block_in, facts_at}
use Rattle.never_stuck.proofs.DefinedOnce.{is_of_block, result_places, block_places, count_append, count_yes, counted}
use Rattle.never_stuck.proofs.DefinedOnce.{block_once}
use Rattle.never_stuck.proofs.Elements.{contains_at, contains_more, map_has, map_only, flat_map_has}
use Rattle.never_stuck.proofs.TypedEffects.{access_width}
use Rattle.ir_machine.specs.Narrow.{IsNarrow, IsAccessed, IsNarrowOp, HasPlace, HasAgreeing}
use Rattle.ir_machine.specs.Runnable.{IsRunnable}

-- ---- types

narrow_type : (kind : IrType) → is_wide kind ≡ true → IsNarrow kind
narrow_type (Int w) wide =
    let both = and_parts (nat_le 1 w) (nat_le w 64) wide in
    (leb-true 1 w both.0, leb-true w 64 both.1)
narrow_type _ wide = tt

-- the first of two tests
narrow_first : (kind : IrType) (more : Bool) → (is_wide kind && more) ≡ true → IsNarrow kind
narrow_first kind more both = narrow_type kind (and_parts (is_wide kind) more both).0

-- the types of operands
narrow_all : (operands : List TypedOperand) → list_all (λ (typed : TypedOperand). is_wide typed.kind) operands ≡ true
    → All (λ (typed : TypedOperand). IsNarrow typed.kind) operands
narrow_all operands fit =
    All-weaker (λ (typed : TypedOperand). is_wide typed.kind ≡ true) (λ (typed : TypedOperand). IsNarrow typed.kind)
    (λ typed wide. narrow_type typed.kind wide) operands
    (AllPass-from_list_all (λ (typed : TypedOperand). is_wide typed.kind) operands fit)

accessed_type : (kind : IrType) → is_whole kind ≡ true → IsAccessed kind
accessed_type (Int w) whole = access_width w whole
accessed_type _ whole = tt

narrow_op : (op : Op) → widths_fit op ≡ true → IsNarrowOp op
narrow_op (Binary op nuw nsw exact disjoint kind left right) fit = narrow_type kind fit
narrow_op (Icmp pred kind left right) fit = narrow_type kind fit
narrow_op (Cast op nneg from value to) fit =
    let both = (and_parts (is_wide from && is_wide to) (converts op from to) fit).0 in
    (narrow_first from (is_wide to) both, narrow_type to (and_parts (is_wide from) (is_wide to) both).1)
narrow_op (Select cond left right) fit =
    let both = and_parts (is_wide left.kind) (is_wide right.kind) fit in
    (narrow_type left.kind both.0, narrow_type right.kind both.1)
narrow_op (Phi kind entries) fit = narrow_type kind fit
narrow_op (Freeze kind value) fit = narrow_type kind fit
narrow_op (Load kind from) fit = accessed_type kind fit
narrow_op (Store kind value to) fit = accessed_type kind fit
narrow_op (Gep inbounds kind base indices) fit =
    let wide = list_all (λ (index : TypedOperand). is_wide index.kind) indices in
    narrow_all indices (and_parts (is_wide kind) wide fit).1
narrow_op (Call ret callee args) fit =
    let both = and_parts (is_wide ret) (list_all (λ (arg : TypedOperand). is_wide arg.kind) args) fit in
    (narrow_type ret both.0, narrow_all args both.1)
narrow_op (Switch kind value other cases) fit =
    narrow_first kind (list_all (λ (one : Case). is_wide one.kind) cases) fit
narrow_op (Ret (Some typed)) fit = narrow_type typed.kind fit
narrow_op _ fit = tt

-- ---- phis

agreeing_op : (f : Function) (b : ℕ) (op : Op) → entries_fit f b op ≡ true → HasAgreeing op
agreeing_op f b (Phi kind entries) fit =
    let numbers = same_numbers (map (λ (entry : PhiEntry). entry.from.0) entries) (incoming f b) in
    (and_parts numbers (entries_agree kind entries) fit).1
agreeing_op f b _ fit = tt

-- ---- blocks

-- No two have one number where each number is that of at most one.
apart : (blocks : List Block) → ((b : ℕ) → count_by (is_of_block b) (block_places blocks) ≤ 1)
    → AllPairs (λ x y. x ≢ y) (map (λ (block : Block). block.id.0) blocks)
apart [] once = λ i j d less within. absurd (omega arith)
apart (block ∷ blocks) once =
    let ids = map (λ (one : Block). one.id.0) blocks in
    let parts = λ (b : ℕ). count_append (is_of_block b) (block_definitions block) (block_places blocks) in
    AllPairs-cons (λ x y. x ≢ y) block.id.0 ids
    (λ k d within same.
    let is_own = is_of_block block.id.0 in
    let own : is_own (BlockAt block.id) ≡ true = eq-eqb block.id.0 block.id.0 refl in
    let other = map_only (λ (one : Block). one.id.0) blocks (get_or ids k d) (Contains-get_or ids k d within) in
    let there : Contains (block_definitions other.0) (BlockAt other.0.id) = (0, omega arith, refl) in
    let later = counted is_own (block_places blocks) (BlockAt other.0.id)
    (flat_map_has block_definitions blocks other.0 (BlockAt other.0.id) other.1 there)
    (eq-eqb other.0.id.0 block.id.0 (other.2 ∙ sym same)) in
    omega (
      arith,
      count_yes is_own (BlockAt block.id) (result_places block.instrs) own,
      parts block.id.0,
      later,
      once block.id.0,
    ))
    (apart blocks (λ b. omega (arith, parts b, once b)))

-- ---- results

module _ (f : Function) (ids : HasIds f) where
  site_within : (v : ℕ) → Contains (function_sites f) (DefinesValue v) → v < length f.values
  unfolding HasIds
  site_within v there = All-contains (IsInTable f) (function_sites f) (DefinesValue v) ids there

  param_within : (p : Param) → Contains f.params p → p.value.0 < length f.values
  param_within p there =
      let site : Param → Site = λ p. DefinesValue p.value.0 in
      site_within p.value.0
      (Contains-append_left (map site f.params) (flat_map block_sites f.blocks) (site p)
      (map_has site f.params p there))

  result_within : (block : Block) (instr : Instr) (result : Option ValueId) → Contains f.blocks block
      → Contains block.instrs instr → instr.result ≡ result → HasPlace (length f.values) result
  result_within block instr None in_f in_block is = tt
  result_within block instr (Some v) in_f in_block is =
      let site = DefinesValue v.0 in
      let own : Contains (result_sites instr.result) site = rw is (0, omega arith, refl) in
      let of_instr = Contains-append_left (result_sites instr.result) (op_sites instr.op) site own in
      let of_block =
      contains_more (DefinesBlock block.id.0) (flat_map instr_sites block.instrs) site
      (flat_map_has instr_sites block.instrs instr site in_block of_instr) in
      site_within v.0
      (Contains-append_right (map (λ (p : Param). DefinesValue p.value.0) f.params) (flat_map block_sites f.blocks) site
      (flat_map_has block_sites f.blocks block site in_f of_block))

-- ---- the parts of a function

-- An instruction is of types that a machine holds, its result is in the table, and where it is a phi its entries agree.
pub record IsHeld (values : ℕ) (instr : Instr) : Type 0 where
  pub narrow : IsNarrowOp instr.op
  pub place : HasPlace values instr.result
  pub agrees : HasAgreeing instr.op

module _ (f : Function) (runs : IsRunnable f) where
  -- each parameter is in the table
  pub params_held : All (λ (p : Param). p.value.0 < length f.values) f.params
  params_held k d within =
      param_within f runs.well_made.ids (get_or f.params k d) (Contains-get_or f.params k d within)

  -- no two blocks have one number
  pub blocks_apart : AllPairs (λ x y. x ≢ y) (defined_blocks f)
  blocks_apart = apart f.blocks (block_once runs.signatures f runs.accepted)

  module _ (b : ℕ) (block : Block) (found : block_of f b ≡ Some block) where
    -- each instruction of a block
    pub instr_held : (k : ℕ) (instr : Instr) → slice_get block.instrs k ≡ Some instr → IsHeld (length f.values) instr
    instr_held k instr at =
        let stands : StandsIn f b k block instr = record { block = found; instr = at } in
        let facts = facts_at runs.signatures f runs.well_made runs.accepted b k block instr stands in
        record {
          narrow = narrow_op instr.op facts.widths;
          place =
              result_within f runs.well_made.ids block instr instr.result (block_in f b block found).0
              (contains_at block.instrs k instr at) refl;
          agrees = agreeing_op f b instr.op facts.entries;
        }

    -- each of its phis
    pub phis_held : All (IsHeld (length f.values)) (leading_phis block.instrs)
    phis_held k d within =
        let phis = leading_phis block.instrs in
        instr_held k (get_or phis k d)
        (leading_at block.instrs (get_or phis k d) k (slice_get-get_or phis k d within)).0
