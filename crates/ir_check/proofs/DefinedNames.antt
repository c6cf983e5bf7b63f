-- The names that a function defines: ids that stand in their tables have room, and the rows tell what is defined.
use Rattle.std.proofs.Common.{◌≡◌, ℕ, ◌==◌, ◌<◌, Bool, true, false, ◌||◌, List, [], ◌∷◌, ◌++◌, map, length, Option}
use Rattle.std.proofs.Common.{Some, None, slice_get, refl, sym, ap, ◌∙◌, inl, inr, length-set}
use Rattle.std.specs.List.{list_any, flat_map, All}
use Rattle.std.proofs.lemmas.Bool.{cases_eq, ne_eqb}
use Rattle.std.proofs.lemmas.List.{length-replicate}
use Rattle.std.proofs.lemmas.List.Elements.{All-nil, All-cons, All-head, All-tail, All-append}
use Rattle.std.proofs.lemmas.List.Folds.{list_any-append}
use Rattle.std.proofs.lemmas.Grind.{flat_map-append}
use Rattle.scev_base.specs.declared.ids.ValueId.{ValueId}
use Rattle.ir_model.specs.declared.function.Param.{Param}
use Rattle.ir_model.specs.declared.function.Instr.{Instr}
use Rattle.ir_model.specs.declared.function.Block.{Block}
use Rattle.ir_model.specs.declared.function.Function.{Function}
use Rattle.ir_model.specs.declared.rule.Place.{Place}
use Rattle.ir_model.specs.declared.rule.Place.TheVariants.{Value, BlockAt, UseIn, Item}
use Rattle.ir_model.specs.Shapes.{defined_values, defined_blocks, result_of, instructions}
use Rattle.ir_model.specs.Sites.{DefinesValue, DefinesBlock, result_sites, op_sites, instr_sites, block_sites}
use Rattle.ir_model.specs.WellMade.{IsInTable, HasIds}
use Rattle.ir_rules.specs.Names.{same_place, result_place, block_definitions, definitions, duplicate_names}
use Rattle.ir_check.specs.declared.defined.Defined.{Defined}
use Rattle.ir_check.specs.declared.defined.Names.TheVariants.{Once, Again}
use Rattle.ir_check.specs.Definitions.{has_place, with_place, HasRoom, first_again, with_places, HaveRoom, Defines}
use Rattle.ir_check.specs.Definitions.{AreNames}
use Rattle.ir_check.proofs.DefinedRows.{Knows-none, again-repeated, has-all, none, or_none}

-- ---- ids that stand in their tables have room

All-first : {X : Type 0} (P : X → Type 0) (xs ys : List X) → All P (xs ++ ys) → All P xs
All-first P [] ys all = All-nil P
All-first P (x ∷ xs) ys all =
    All-cons P x xs (All-head P x (xs ++ ys) all) (All-first P xs ys (All-tail P x (xs ++ ys) all))

All-second : {X : Type 0} (P : X → Type 0) (xs ys : List X) → All P (xs ++ ys) → All P ys
All-second P [] ys all = all
All-second P (x ∷ xs) ys all = All-second P xs ys (All-tail P x (xs ++ ys) all)

-- The place is one of a definition whose id stands in the function's table.
abbrev IsPlaced : Function → Place → Type 0
IsPlaced f (Value v) = v.0 < length f.values
IsPlaced f (BlockAt b) = b.0 < length f.labels
IsPlaced f _ = Unit {0}

params_placed : (f : Function) (ps : List Param)
    → All (IsInTable f) (map (λ (p : Param). DefinesValue p.value.0) ps)
    → All (IsPlaced f) (map (λ (p : Param). Value p.value) ps)
params_placed f [] all = All-nil (IsPlaced f)
params_placed f (p ∷ ps) all =
    let P = IsInTable f in
    let sites = map (λ (p : Param). DefinesValue p.value.0) ps in
    All-cons (IsPlaced f) (Value p.value) (map (λ (p : Param). Value p.value) ps)
    (All-head P (DefinesValue p.value.0) sites all)
    (params_placed f ps (All-tail P (DefinesValue p.value.0) sites all))

result_placed : (f : Function) (given : Option ValueId) → All (IsInTable f) (result_sites given)
    → All (IsPlaced f) (result_place given)
result_placed f None all = All-nil (IsPlaced f)
result_placed f (Some v) all =
    All-cons (IsPlaced f) (Value v) [] (All-head (IsInTable f) (DefinesValue v.0) [] all) (All-nil (IsPlaced f))

results_placed : (f : Function) (instrs : List Instr) → All (IsInTable f) (flat_map instr_sites instrs)
    → All (IsPlaced f) (flat_map (λ (instr : Instr). result_place instr.result) instrs)
results_placed f [] all = All-nil (IsPlaced f)
results_placed f (instr ∷ instrs) all =
    let P = IsInTable f in
    let rest = flat_map instr_sites instrs in
    let here : All P (result_sites instr.result ++ op_sites instr.op) = All-first P (instr_sites instr) rest all in
    All-append (IsPlaced f) (result_place instr.result) (flat_map (λ (instr : Instr). result_place instr.result) instrs)
    (result_placed f instr.result (All-first P (result_sites instr.result) (op_sites instr.op) here))
    (results_placed f instrs (All-second P (instr_sites instr) rest all))

blocks_placed : (f : Function) (blocks : List Block) → All (IsInTable f) (flat_map block_sites blocks)
    → All (IsPlaced f) (flat_map block_definitions blocks)
blocks_placed f [] all = All-nil (IsPlaced f)
blocks_placed f (block ∷ blocks) all =
    let P = IsInTable f in
    let rest = flat_map block_sites blocks in
    let sites = flat_map instr_sites block.instrs in
    let here : All P (DefinesBlock block.id.0 ∷ sites) = All-first P (block_sites block) rest all in
    let results = flat_map (λ (instr : Instr). result_place instr.result) block.instrs in
    All-append (IsPlaced f) (block_definitions block) (flat_map block_definitions blocks)
    (All-cons (IsPlaced f) (BlockAt block.id) results (All-head P (DefinesBlock block.id.0) sites here)
    (results_placed f block.instrs (All-tail P (DefinesBlock block.id.0) sites here)))
    (blocks_placed f blocks (All-second P (block_sites block) rest all))

-- The rows are as long as the function's tables.
record Fits (f : Function) (d : Defined) : Type 0 where
  values : length d.values ≡ length f.values
  blocks : length d.blocks ≡ length f.labels

Fits-more : (f : Function) (d : Defined) (at : Place) → Fits f d → Fits f (with_place d at)
Fits-more f d (Value v) fits = record { values = length-set d.values v.0 true ∙ fits.values; blocks = fits.blocks }
Fits-more f d (BlockAt b) fits = record { values = fits.values; blocks = length-set d.blocks b.0 true ∙ fits.blocks }
Fits-more f d (UseIn v b) fits = fits
Fits-more f d (Item i) fits = fits

has_room : (f : Function) (d : Defined) (at : Place) → Fits f d → IsPlaced f at → HasRoom d at
has_room f d (Value v) fits placed = rw fits.values placed
has_room f d (BlockAt b) fits placed = rw fits.blocks placed
has_room f d (UseIn v b) fits placed = tt
has_room f d (Item i) fits placed = tt

have_room : (f : Function) (d : Defined) (places : List Place) → Fits f d → All (IsPlaced f) places
    → HaveRoom d places
have_room f d [] fits all = tt
have_room f d (at ∷ places) fits all = (
  has_room f d at fits (All-head (IsPlaced f) at places all),
  have_room f (with_place d at) places (Fits-more f d at fits) (All-tail (IsPlaced f) at places all),
)

pub ids_have_room : (f : Function) → HasIds f
    → HaveRoom (none (length f.values) (length f.labels)) (definitions f)
unfolding HasIds
ids_have_room f ids =
    let P = IsInTable f in
    let params = map (λ (p : Param). DefinesValue p.value.0) f.params in
    let blocks = flat_map block_sites f.blocks in
    have_room f (none (length f.values) (length f.labels)) (definitions f)
    (record { values = length-replicate (length f.values) false; blocks = length-replicate (length f.labels) false })
    (All-append (IsPlaced f) (map (λ (p : Param). Value p.value) f.params) (flat_map block_definitions f.blocks)
    (params_placed f f.params (All-first P params blocks ids))
    (blocks_placed f f.blocks (All-second P params blocks ids)))

-- ---- the places of definitions are those of the values and blocks that are defined

same_turned : (v w : ℕ) → (v == w) ≡ (w == v)
same_turned v w =
    elim (cases_eq v w) [
      | inl same ↦ rw same refl
      | inr apart ↦ ne_eqb v w apart ∙ sym (ne_eqb w v (λ e. apart (sym e)))
    ]

module _ (v : ℕ) where
  abbrev is_value : Place → Bool
  is_value at = same_place (Value (record { 0 = v })) at

  abbrev is_one : ℕ → Bool
  is_one w = w == v

  value_of_params : (ps : List Param)
      → list_any is_value (map (λ (p : Param). Value p.value) ps) ≡ list_any is_one (map (λ (p : Param). p.value.0) ps)
  value_of_params [] = refl
  value_of_params (p ∷ ps) = rw (same_turned v p.value.0, value_of_params ps) refl

  value_of_result : (given : Option ValueId)
      → list_any is_value (result_place given) ≡ list_any is_one (result_of given)
  value_of_result None = refl
  value_of_result (Some w) = rw (same_turned v w.0) refl

  value_of_results : (instrs : List Instr)
      → list_any is_value (flat_map (λ (instr : Instr). result_place instr.result) instrs)
      ≡ list_any is_one (flat_map (λ (instr : Instr). result_of instr.result) instrs)
  value_of_results [] = refl
  value_of_results (instr ∷ instrs) =
      let places = flat_map (λ (instr : Instr). result_place instr.result) instrs in
      let values = flat_map (λ (instr : Instr). result_of instr.result) instrs in
      list_any-append is_value (result_place instr.result) places
      ∙ ap (λ here. here || list_any is_value places) (value_of_result instr.result)
      ∙ ap (λ rest. list_any is_one (result_of instr.result) || rest) (value_of_results instrs)
      ∙ sym (list_any-append is_one (result_of instr.result) values)

  value_of_blocks : (blocks : List Block)
      → list_any is_value (flat_map block_definitions blocks)
      ≡ list_any is_one (flat_map (λ (instr : Instr). result_of instr.result) (instructions blocks))
  value_of_blocks [] = refl
  value_of_blocks (block ∷ blocks) =
      let given = λ (instr : Instr). result_of instr.result in
      list_any-append is_value (block_definitions block) (flat_map block_definitions blocks)
      ∙ ap (λ here. here || list_any is_value (flat_map block_definitions blocks)) (value_of_results block.instrs)
      ∙ ap (λ rest. list_any is_one (flat_map given block.instrs) || rest) (value_of_blocks blocks)
      ∙ sym (list_any-append is_one (flat_map given block.instrs) (flat_map given (instructions blocks)))
      ∙ ap (list_any is_one) (sym (flat_map-append given block.instrs (instructions blocks)))

  value_of_definitions : (f : Function) → list_any is_value (definitions f) ≡ list_any is_one (defined_values f)
  value_of_definitions f =
      let values = flat_map (λ (instr : Instr). result_of instr.result) (instructions f.blocks) in
      list_any-append is_value (map (λ (p : Param). Value p.value) f.params) (flat_map block_definitions f.blocks)
      ∙ ap (λ here. here || list_any is_value (flat_map block_definitions f.blocks)) (value_of_params f.params)
      ∙ ap (λ rest. list_any is_one (map (λ (p : Param). p.value.0) f.params) || rest) (value_of_blocks f.blocks)
      ∙ sym (list_any-append is_one (map (λ (p : Param). p.value.0) f.params) values)

module _ (b : ℕ) where
  abbrev is_block : Place → Bool
  is_block at = same_place (BlockAt (record { 0 = b })) at

  no_block_of_params : (ps : List Param) → list_any is_block (map (λ (p : Param). Value p.value) ps) ≡ false
  no_block_of_params [] = refl
  no_block_of_params (p ∷ ps) = no_block_of_params ps

  no_block_of_result : (given : Option ValueId) → list_any is_block (result_place given) ≡ false
  no_block_of_result None = refl
  no_block_of_result (Some w) = refl

  no_block_of_results : (instrs : List Instr)
      → list_any is_block (flat_map (λ (instr : Instr). result_place instr.result) instrs) ≡ false
  no_block_of_results [] = refl
  no_block_of_results (instr ∷ instrs) =
      let places = flat_map (λ (instr : Instr). result_place instr.result) instrs in
      list_any-append is_block (result_place instr.result) places
      ∙ ap (λ here. here || list_any is_block places) (no_block_of_result instr.result)
      ∙ no_block_of_results instrs

  block_of_blocks : (blocks : List Block)
      → list_any is_block (flat_map block_definitions blocks)
      ≡ list_any (λ c. c == b) (map (λ (block : Block). block.id.0) blocks)
  block_of_blocks [] = refl
  block_of_blocks (block ∷ blocks) =
      let places = flat_map block_definitions blocks in
      list_any-append is_block (block_definitions block) places
      ∙ ap (λ here. ((b == block.id.0) || here) || list_any is_block places) (no_block_of_results block.instrs)
      ∙ ap (λ here. here || list_any is_block places) (sym (or_none (b == block.id.0)) ∙ same_turned b block.id.0)
      ∙ ap (λ rest. (block.id.0 == b) || rest) (block_of_blocks blocks)

  block_of_definitions : (f : Function)
      → list_any is_block (definitions f) ≡ list_any (λ c. c == b) (defined_blocks f)
  block_of_definitions f =
      list_any-append is_block (map (λ (p : Param). Value p.value) f.params) (flat_map block_definitions f.blocks)
      ∙ ap (λ here. here || list_any is_block (flat_map block_definitions f.blocks)) (no_block_of_params f.params)
      ∙ block_of_blocks f.blocks

-- ---- what the walk over a function's definitions gives

no_first : {A : Type 0} (xs : List A) → slice_get xs 0 ≡ None → xs ≡ []
no_first [] is = refl
no_first (x ∷ xs) is = cc

module _ (f : Function) (ids : HasIds f) (d : Defined) (is : d ≡ none (length f.values) (length f.labels)) where
  pub room_at_start : HaveRoom d (definitions f)
  room_at_start = rw is (ids_have_room f ids)

  pub first_repeated : first_again d (definitions f) ≡ slice_get (duplicate_names f) 0
  first_repeated =
      again-repeated d [] (definitions f) (rw is (Knows-none (length f.values) (length f.labels))) room_at_start

  knows_all : (p : Place) → has_place (with_places d (definitions f)) p ≡ list_any (same_place p) (definitions f)
  knows_all p =
      let start : has_place d p ≡ false = rw is (Knows-none (length f.values) (length f.labels) p) in
      has-all d (definitions f) room_at_start p ∙ ap (λ first. first || list_any (same_place p) (definitions f)) start

  pub defines_all : Defines (with_places d (definitions f)) f
  defines_all = record {
    values = λ v. knows_all (Value (record { 0 = v })) ∙ value_of_definitions v f;
    blocks = λ b. knows_all (BlockAt (record { 0 = b })) ∙ block_of_definitions b f;
  }

  pub names_again : (at : Place) → Some at ≡ first_again d (definitions f) → AreNames f (Again at)
  names_again at found = sym first_repeated ∙ sym found

  pub names_once : (new : Defined) → None ≡ first_again d (definitions f) → new ≡ with_places d (definitions f)
      → AreNames f (Once new)
  names_once new nothing all =
      (no_first (duplicate_names f) (sym first_repeated ∙ sym nothing), rw all defines_all)
