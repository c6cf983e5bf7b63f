-- Where no name is defined twice, each block has a number of its own, and what gives a value is its first definition.
use Rattle.std.proofs.Common.{◌≡◌, ◌≢◌, ℕ, zero, suc, ◌==◌, Bool, true, false, List, [], ◌∷◌, ◌++◌, map, flat_map}
use Rattle.std.proofs.Common.{Option, Some, None, All, AllPairs, Contains, slice_get, if◌then◌else◌, refl, sym, ap, ◌∙◌}
use Rattle.std.proofs.Common.{subst, arith}
use Rattle.std.specs.List.{list_any}
use Rattle.std.proofs.lemmas.Bool.{eqb-false, eq-eqb, ne_eqb, or_parts}
use Rattle.std.proofs.lemmas.Option.{none-some, same_Some}
use Rattle.std.proofs.lemmas.List.Elements.{All-nil, All-cons, All-map, All-contains, All-weaker, Contains-append_left}
use Rattle.std.proofs.lemmas.List.Elements.{Contains-append_right}
use Rattle.std.proofs.lemmas.List.Folds.{list_any_none}
use Rattle.std.proofs.lemmas.List.Kept.{AllPairs-cons}
use Rattle.scev_base.specs.declared.ids.ValueId.{ValueId}
use Rattle.flow_graph.proofs.IdLemmas.{all_left}
use Rattle.ir_model.specs.declared.function.Param.{Param}
use Rattle.ir_model.specs.declared.function.Instr.{Instr}
use Rattle.ir_model.specs.declared.function.Block.{Block}
use Rattle.ir_model.specs.declared.function.Function.{Function}
use Rattle.ir_model.specs.declared.rule.Place.{Place}
use Rattle.ir_model.specs.declared.rule.Place.TheVariants.{Value, BlockAt}
use Rattle.ir_model.specs.Defined.{is_value}
use Rattle.ir_model.specs.Places.{given_at, is_param}
use Rattle.ir_model.specs.Shapes.{defined_blocks}
use Rattle.ir_rules.specs.Spots.{repeated}
use Rattle.ir_rules.specs.Names.{same_place, result_place, block_definitions, definitions, duplicate_names}
use Rattle.ssa_check.specs.declared.definitions.Definition.TheVariants.{At}
use Rattle.ssa_check.specs.Tables.{definition_of}
use Rattle.ssa_check.proofs.DefinitionLemmas.{given_in, position_cons}
use Rattle.ssa_check.proofs.Elements.{contains_none, contains_later, contains_at, all_there, map_has, flat_map_has}

-- ---- places that aren't repeated

-- No place of a list is the same as one before it there.
abbrev AreApart : List Place → Type 0
AreApart [] = Unit {0}
AreApart (at ∷ more) = All (λ later. same_place later at ≡ false) more × AreApart more

abbrev IsNew : List Place → Place → Type 0
IsNew before at = list_any (same_place at) before ≡ false

unrepeated : (old : Bool) (at : Place) (more : List Place) → (if old then at ∷ more else more) ≡ []
    → (old ≡ false) × (more ≡ [])
unrepeated true at more none = absurd (cc)
unrepeated false at more none = (refl, none)

apart_behind : (before places : List Place) → repeated same_place before places ≡ []
    → All (IsNew before) places × AreApart places
apart_behind before [] none = (All-nil (IsNew before), tt)
apart_behind before (at ∷ places) none =
    let parts =
    unrepeated (list_any (same_place at) before) at (repeated same_place (at ∷ before) places) none in
    let rest = apart_behind (at ∷ before) places parts.1 in
    let N = IsNew (at ∷ before) in
    let both = λ (later : Place) (new : N later).
    or_parts (same_place later at) (list_any (same_place later) before) new in
    let others = All-weaker N (IsNew before) (λ later new. (both later new).1) places rest.0 in
    let apart = All-weaker N (λ later. same_place later at ≡ false) (λ later new. (both later new).0) places rest.0 in
    (All-cons (IsNew before) at places parts.0 others, (apart, rest.1))

-- So it is in two lists, and with one behind the other.
record AreParts (xs ys : List Place) : Type 0 where
  first : AreApart xs
  second : AreApart ys
  across : (x y : Place) → Contains xs x → Contains ys y → same_place y x ≡ false

apart_parts : (xs ys : List Place) → AreApart (xs ++ ys) → AreParts xs ys
apart_parts [] ys apart =
    record { first = tt; second = apart; across = λ x y there also. absurd (contains_none x there) }
apart_parts (at ∷ xs) ys apart =
    let P : Place → Type 0 = λ later. same_place later at ≡ false in
    let rest = apart_parts xs ys apart.1 in
    let across = λ (x : Place). λ (y : Place). λ (also : Contains ys y).
    λ (is : at ≡ x). subst (λ (one : Place). same_place y one ≡ false) is
    (All-contains P (xs ++ ys) y apart.0 (Contains-append_right xs ys y also)) in
    record {
      first = (all_left P xs ys apart.0, rest.first);
      second = rest.second;
      across = λ x y there also. either x y there also (across x y also) (rest.across x y);
    }
  where
    either : (x y : Place) → Contains (at ∷ xs) x → Contains ys y → (at ≡ x → same_place y x ≡ false)
        → (Contains xs x → Contains ys y → same_place y x ≡ false) → same_place y x ≡ false
    either x y (zero, within, is) also here later = here is
    either x y (suc k, within, is) also here later = later (k, omega arith, is) also

-- ---- blocks

abbrev ids : List Block → List ℕ
ids blocks = map (λ (block : Block). block.id.0) blocks

blocks_apart : (blocks : List Block) → AreApart (flat_map block_definitions blocks)
    → AllPairs (λ a b. a ≢ b) (ids blocks)
blocks_apart [] apart = λ i j d less within. absurd (omega arith)
blocks_apart (block ∷ blocks) apart =
    let results = flat_map (λ (instr : Instr). result_place instr.result) block.instrs in
    let rest = flat_map block_definitions blocks in
    let P : Place → Type 0 = λ later. same_place later (BlockAt block.id) ≡ false in
    let others = λ (other : Block) (there : Contains blocks other).
    let place : Contains rest (BlockAt other.id) =
    flat_map_has block_definitions blocks other (BlockAt other.id) there (0, omega arith, refl) in
    let other_number : (other.id.0 == block.id.0) ≡ false =
    All-contains P (results ++ rest) (BlockAt other.id) apart.0
    (Contains-append_right results rest (BlockAt other.id) place) in
    let differs : block.id.0 ≢ other.id.0 = λ e. eqb-false other.id.0 block.id.0 other_number (sym e) in
    differs in
    AllPairs-cons (λ a b. a ≢ b) block.id.0 (ids blocks)
    (All-map (λ b. block.id.0 ≢ b) (λ (block : Block). block.id.0) blocks
    (all_there (λ (other : Block). block.id.0 ≢ other.id.0) blocks others))
    (blocks_apart blocks (apart_parts (block_definitions block) rest apart).second)

-- ---- values

abbrev register : ℕ → Place
register v = Value (record { 0 = v })

abbrev result_places : List Instr → List Place
result_places instrs = flat_map (λ (instr : Instr). result_place instr.result) instrs

-- An instruction of a list gives a value.
record Gives (instrs : List Instr) (i v : ℕ) : Type 0 where
  instr : Instr
  stands : slice_get instrs i ≡ Some instr
  gives : instr.result ≡ Some (record { 0 = v })

given_place : (instrs : List Instr) (i v : ℕ) → Gives instrs i v → Contains (result_places instrs) (register v)
given_place instrs i v given =
    let own : Contains (result_place given.instr.result) (register v) = rw given.gives (0, omega arith, refl) in
    flat_map_has (λ (instr : Instr). result_place instr.result) instrs given.instr (register v)
    (contains_at instrs i given.instr given.stands) own

turned : (v w : ℕ) → (v == w) ≡ false → (w == v) ≡ false
turned v w differs = ne_eqb w v (λ e. eqb-false v w differs (sym e))

other_result : (v : ℕ) (result : Option ValueId)
    → ((at : Place) → Contains (result_place result) at → same_place (register v) at ≡ false)
    → is_value result v ≡ false
other_result v None other = refl
other_result v (Some w) other = turned v w.0 (other (Value w) (0, omega arith, refl))

position_once : (instrs : List Instr) → AreApart (result_places instrs) → (i v : ℕ) → Gives instrs i v
    → given_in instrs v ≡ Some i
position_once [] apart i v given = absurd (none-some given.instr given.stands)
position_once (first ∷ instrs) apart zero v given =
    let result : first.result ≡ Some (record { 0 = v }) =
    ap (λ (one : Instr). one.result) (same_Some first given.instr given.stands) ∙ given.gives in
    let is : is_value first.result v ≡ true = rw result (eq-eqb v v refl) in
    position_cons (λ (instr : Instr). is_value instr.result v) first instrs ∙ simp is
position_once (first ∷ instrs) apart (suc i) v given =
    let rest : Gives instrs i v = record { instr = given.instr; stands = given.stands; gives = given.gives } in
    let parts = apart_parts (result_place first.result) (result_places instrs) apart in
    let other : is_value first.result v ≡ false =
    other_result v first.result (λ at there. parts.across at (register v) there
    (given_place instrs i v rest)) in
    let later = position_once instrs parts.second i v rest in
    position_cons (λ (instr : Instr). is_value instr.result v) first instrs ∙ simp (other, later)

not_given : (instrs : List Instr) (v : ℕ)
    → ((at : Place) → Contains (result_places instrs) at → same_place (register v) at ≡ false)
    → given_in instrs v ≡ None
not_given [] v other = refl
not_given (first ∷ instrs) v other =
    let here : is_value first.result v ≡ false =
    other_result v first.result
    (λ at there. other at (Contains-append_left (result_place first.result) (result_places instrs) at there)) in
    let later =
    not_given instrs v
    (λ at there. other at (Contains-append_right (result_place first.result) (result_places instrs) at there)) in
    position_cons (λ (instr : Instr). is_value instr.result v) first instrs ∙ simp (here, later)

given_once : (blocks : List Block) → AreApart (flat_map block_definitions blocks) → (k : ℕ) (block : Block) (i v : ℕ)
    → slice_get blocks k ≡ Some block → Gives block.instrs i v → given_at blocks v ≡ Some (block.id, i)
given_once [] apart k block i v at given = absurd (none-some block at)
given_once (first ∷ blocks) apart zero block i v at given =
    let same = same_Some first block at in
    let parts = apart_parts (block_definitions first) (flat_map block_definitions blocks) apart in
    let own : Gives first.instrs i v = subst (λ (one : Block). Gives one.instrs i v) (sym same) given in
    let place = position_once first.instrs parts.first.1 i v own in
    simp place (ap (λ (one : Block). Some (one.id, i)) same)
given_once (first ∷ blocks) apart (suc k) block i v at given =
    let rest = flat_map block_definitions blocks in
    let parts = apart_parts (block_definitions first) rest apart in
    let own : Contains (block_definitions block) (register v) =
    contains_later (BlockAt block.id) (result_places block.instrs) (register v)
    (given_place block.instrs i v given) in
    let there : Contains rest (register v) =
    flat_map_has block_definitions blocks block (register v) (contains_at blocks k block at) own in
    let none =
    not_given first.instrs v (λ one among. parts.across one (register v)
    (contains_later (BlockAt first.id) (result_places first.instrs) one among) there) in
    let later = given_once blocks parts.second k block i v at given in
    simp none later

-- ---- a function

module _ (f : Function) (once : duplicate_names f ≡ []) where
  abbrev params : List Place
  params = map (λ (p : Param). Value p.value) f.params

  parts : AreParts params (flat_map block_definitions f.blocks)
  parts = apart_parts params (flat_map block_definitions f.blocks) (apart_behind [] (definitions f) once).1

  -- no two blocks have one number
  pub blocks_once : AllPairs (λ a b. a ≢ b) (defined_blocks f)
  blocks_once = blocks_apart f.blocks parts.second

  -- what gives a value is where it is defined
  pub defined_there : (k : ℕ) (block : Block) (i : ℕ) (instr : Instr) (v : ℕ) → slice_get f.blocks k ≡ Some block
      → slice_get block.instrs i ≡ Some instr → instr.result ≡ Some (record { 0 = v })
      → definition_of f v ≡ At block.id i
  defined_there k block i instr v at stands gives =
      let given : Gives block.instrs i v = record { instr = instr; stands = stands; gives = gives } in
      let place = given_once f.blocks parts.second k block i v at given in
      let own : Contains (block_definitions block) (register v) =
      contains_later (BlockAt block.id) (result_places block.instrs) (register v)
      (given_place block.instrs i v given) in
      let there =
      flat_map_has block_definitions f.blocks block (register v) (contains_at f.blocks k block at) own in
      let other : All (λ (p : Param). (p.value.0 == v) ≡ false) f.params =
      all_there (λ (p : Param). (p.value.0 == v) ≡ false) f.params (λ p among.
      turned v p.value.0 (parts.across (Value p.value) (register v)
      (map_has (λ (p : Param). Value p.value) f.params p among) there)) in
      let no_param : is_param f.params v ≡ false = list_any_none (λ (p : Param). p.value.0 == v) f.params other in
      simp (no_param, place)
