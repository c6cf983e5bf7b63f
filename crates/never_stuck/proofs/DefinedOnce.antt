-- Each name of an accepted function is defined once: a value at its place, and a block by its number.
use Rattle.std.proofs.Common.{◌≡◌, ℕ, zero, suc, ◌==◌, ◌+◌, ◌<◌, ◌≤◌, Bool, true, false, cond, List, [], ◌∷◌, ◌++◌, map}
use Rattle.std.proofs.Common.{flat_map, find, position, count_by, get_or, if◌then◌else◌, Option, Some, None, Contains}
use Rattle.std.proofs.Common.{slice_get, refl, sym, ap, ◌∙◌, subst, inl, inr, arith}
use Rattle.std.specs.List.{list_any}
use Rattle.std.proofs.lemmas.Bool.{cases_Bool, cond-true, cond-false, eqb-true, eq-eqb, true≢false, false≢true, or_left}
use Rattle.std.proofs.lemmas.Bool.{or_right}
use Rattle.std.proofs.lemmas.Option.{none-some, same_Some, some_pair_parts, slice_get-get_or}
use Rattle.std.proofs.lemmas.List.Folds.{Any-from_list_any, list_any_at}
use Rattle.std.proofs.lemmas.List.Quantifiers.{position-Some}
use Rattle.std.proofs.lemmas.List.Sums.{sum_by-cons, sum_by-append}
use Rattle.scev_base.specs.declared.ids.ValueId.{ValueId}
use Rattle.scev_base.specs.declared.ids.BlockId.{BlockId}
use Rattle.ir_model.specs.declared.function.Param.{Param}
use Rattle.ir_model.specs.declared.function.Instr.{Instr}
use Rattle.ir_model.specs.declared.function.Block.{Block}
use Rattle.ir_model.specs.declared.function.Function.{Function}
use Rattle.ir_model.specs.declared.signature.Signatures.{Signatures}
use Rattle.ir_model.specs.declared.rule.Rule.TheVariants as rule
use Rattle.ir_model.specs.declared.rule.Place.{Place}
use Rattle.ir_model.specs.declared.rule.Place.TheVariants.{Value, BlockAt, UseIn, Item}
use Rattle.ir_model.specs.Defined.{is_value}
use Rattle.ir_model.specs.declared.op.Op.TheVariants.{Unreachable}
use Rattle.ir_model.specs.Places.{in_block, given_at, is_param, place_of}
use Rattle.ir_model.specs.Shapes.{block_of}
use Rattle.ir_model.specs.WellMade.{IsWellMade}
use Rattle.ir_meaning.proofs.ListPlaces.{contained_at}
use Rattle.ir_rules.specs.Accepted.{IsAccepted}
use Rattle.ir_rules.specs.Names.{same_place, result_place, block_definitions, definitions}
use Rattle.ir_rules.specs.Spots.{repeated}
use Rattle.never_stuck.proofs.Accepted.{unbroken}
use Rattle.never_stuck.proofs.Elements.{contains_at, contains_more, flat_map_has}

-- ---- counts

module _ {X : Type 0} (p : X → Bool) where
  pub count_cons : (x : X) (xs : List X) → count_by p (x ∷ xs) ≡ cond (p x) 1 0 + count_by p xs
  count_cons x xs = sum_by-cons (λ (x : X). cond (p x) 1 0) x xs

  pub count_append : (xs ys : List X) → count_by p (xs ++ ys) ≡ count_by p xs + count_by p ys
  count_append xs ys = sum_by-append (λ (x : X). cond (p x) 1 0) xs ys

  pub count_yes : (x : X) (xs : List X) → p x ≡ true → count_by p (x ∷ xs) ≡ suc (count_by p xs)
  count_yes x xs passes = omega (arith, count_cons x xs, cond-true {A = ℕ} (p x) 1 0 passes)

  pub count_no : (x : X) (xs : List X) → p x ≡ false → count_by p (x ∷ xs) ≡ count_by p xs
  count_no x xs fails = omega (arith, count_cons x xs, cond-false {A = ℕ} (p x) 1 0 fails)

  pub counted : (xs : List X) (x : X) → Contains xs x → p x ≡ true → 0 < count_by p xs
  counted [] x there passes = absurd (omega (arith, there.1))
  counted (y ∷ ys) x (zero, within, is) passes = omega (arith, count_yes y ys (ap p is ∙ passes))
  counted (y ∷ ys) x (suc k, within, is) passes =
      let rest = counted ys x (k, omega arith, is) passes in
      omega (arith, count_cons y ys, rest)

-- ---- what is repeated nowhere stands once

unrepeated : {X : Type 0} (old : Bool) (x : X) (more : List X) → (if old then x ∷ more else more) ≡ []
    → (old ≡ false) × (more ≡ [])
unrepeated true x more none = absurd (cc)
unrepeated false x more none = (refl, none)

module _ {X : Type 0} (same : X → X → Bool) (p : X → Bool)
    (one : (x y : X) → p x ≡ true → p y ≡ true → same x y ≡ true) where
  any_same : (before : List X) (x : X) → p x ≡ true → list_any p before ≡ true → list_any (same x) before ≡ true
  any_same before x passes some =
      let any = Any-from_list_any p before some in
      list_any_at (same x) before any.0 any.1 any.2 (ap (same x) any.3 ∙ one x any.1 passes any.4)

  -- at most one passes, and none where one stands before
  at_most_one : (before xs : List X) → repeated same before xs ≡ []
      → (count_by p xs ≤ 1) × (list_any p before ≡ true → count_by p xs ≡ 0)
  at_most_one before [] none = (omega arith, λ some. refl)
  at_most_one before (x ∷ xs) none =
      let parts = unrepeated (list_any (same x) before) x (repeated same (x ∷ before) xs) none in
      let rest = at_most_one (x ∷ before) xs parts.1 in
      elim (cases_Bool (p x)) [
        | inl passes ↦
            let last = rest.1 (or_left (p x) (list_any p before) passes) in (
              omega (arith, count_yes p x xs passes, last),
              (λ some. absurd (true≢false (sym (any_same before x passes some) ∙ parts.0))),
            )
        | inr fails ↦ (
          omega (arith, count_no p x xs fails, rest.0),
          (λ some. count_no p x xs fails ∙ rest.1 (or_right (p x) (list_any p before) some)),
        )
      ]

-- ---- the places of a value's definitions, and of a block's

abbrev pub is_of_value : ℕ → Place → Bool
is_of_value v at = same_place at (Value (record { 0 = v }))

abbrev pub is_of_block : ℕ → Place → Bool
is_of_block b at = same_place at (BlockAt (record { 0 = b }))

one_value : (v : ℕ) (x y : Place) → is_of_value v x ≡ true → is_of_value v y ≡ true → same_place x y ≡ true
one_value v (Value w) (Value u) is also = eq-eqb w.0 u.0 (eqb-true w.0 v is ∙ sym (eqb-true u.0 v also))
one_value v (Value w) (BlockAt b) is also = absurd (false≢true also)
one_value v (Value w) (UseIn u b) is also = absurd (false≢true also)
one_value v (Value w) (Item i) is also = absurd (false≢true also)
one_value v (BlockAt b) y is also = absurd (false≢true is)
one_value v (UseIn u b) y is also = absurd (false≢true is)
one_value v (Item i) y is also = absurd (false≢true is)

one_block : (b : ℕ) (x y : Place) → is_of_block b x ≡ true → is_of_block b y ≡ true → same_place x y ≡ true
one_block b (BlockAt c) (BlockAt d) is also = eq-eqb c.0 d.0 (eqb-true c.0 b is ∙ sym (eqb-true d.0 b also))
one_block b (BlockAt c) (Value v) is also = absurd (false≢true also)
one_block b (BlockAt c) (UseIn v d) is also = absurd (false≢true also)
one_block b (BlockAt c) (Item i) is also = absurd (false≢true also)
one_block b (Value v) y is also = absurd (false≢true is)
one_block b (UseIn v d) y is also = absurd (false≢true is)
one_block b (Item i) y is also = absurd (false≢true is)

abbrev pub param_places : List Param → List Place
param_places params = map (λ (p : Param). Value p.value) params

abbrev pub result_places : List Instr → List Place
result_places instrs = flat_map (λ (instr : Instr). result_place instr.result) instrs

abbrev pub block_places : List Block → List Place
block_places blocks = flat_map block_definitions blocks

module _ (signatures : Signatures) (f : Function) (accepted : IsAccepted signatures f) where
  pub value_once : (v : ℕ) → count_by (is_of_value v) (param_places f.params)
      + count_by (is_of_value v) (block_places f.blocks) ≤ 1
  value_once v =
      let once = at_most_one same_place (is_of_value v) (one_value v) [] (definitions f)
      (unbroken signatures f accepted 0 rule.DuplicateName refl) in
      omega (arith, once.0, count_append (is_of_value v) (param_places f.params) (block_places f.blocks))

  pub block_once : (b : ℕ) → count_by (is_of_block b) (block_places f.blocks) ≤ 1
  block_once b =
      let once = at_most_one same_place (is_of_block b) (one_block b) [] (definitions f)
      (unbroken signatures f accepted 0 rule.DuplicateName refl) in
      omega (arith, once.0, count_append (is_of_block b) (param_places f.params) (block_places f.blocks))

-- ---- one block of a number

block_alone : (b : ℕ) (blocks : List Block) (k : ℕ) (block : Block)
    → count_by (is_of_block b) (block_places blocks) ≤ 1 → slice_get blocks k ≡ Some block → block.id.0 ≡ b
    → find (λ one. one.id.0 == b) blocks ≡ Some block
block_alone b [] k block once at is = absurd (none-some block at)
block_alone b (first ∷ blocks) zero block once at is =
    let same : first.id.0 ≡ b = ap (λ (one : Block). one.id.0) (same_Some first block at) ∙ is in
    cond-true (first.id.0 == b) (Some first) (find (λ (one : Block). one.id.0 == b) blocks) (eq-eqb first.id.0 b same)
    ∙ at
block_alone b (first ∷ blocks) (suc k) block once at is =
    let own : Contains (block_definitions block) (BlockAt block.id) = (0, omega arith, refl) in
    let later = counted (is_of_block b) (block_places blocks) (BlockAt block.id)
    (flat_map_has block_definitions blocks block (BlockAt block.id) (contains_at blocks k block at) own)
    (eq-eqb block.id.0 b is) in
    let parts = count_append (is_of_block b) (block_definitions first) (block_places blocks) in
    elim (cases_Bool (first.id.0 == b)) [
      | inl here ↦
          absurd (omega (
            arith,
            count_yes (is_of_block b) (BlockAt first.id) (result_places first.instrs) here,
            parts,
            later,
            once,
          ))
      | inr other ↦
          cond-false (first.id.0 == b) (Some first) (find (λ (one : Block). one.id.0 == b) blocks) other
          ∙ block_alone b blocks k block (omega (arith, parts, once)) at is
    ]

-- ---- what gives a value

is_result : (v : ℕ) (result : Option ValueId) → is_value result v ≡ true → result ≡ Some (record { 0 = v })
is_result v None is = absurd (false≢true is)
is_result v (Some w) is = ap (λ (n : ℕ). Some (record { 0 = n })) (eqb-true w.0 v is)

given_place : (v : ℕ) (blocks : List Block) (at : BlockId) (i : ℕ) → given_at blocks v ≡ Some (at, i)
    → (block : Block) × Contains blocks block × (block.id ≡ at)
    × (position (λ (instr : Instr). is_value instr.result v) block.instrs ≡ Some i)
given_place v [] at i is = absurd (none-some (at, i) is)
given_place v (first ∷ blocks) at i is =
    go (position (λ (instr : Instr). is_value instr.result v) first.instrs) refl is (given_place v blocks at i)
  where
    go : (o : Option ℕ) → position (λ (instr : Instr). is_value instr.result v) first.instrs ≡ o
        → in_block first.id o (given_at blocks v) ≡ Some (at, i)
        → (given_at blocks v ≡ Some (at, i) → (block : Block) × Contains blocks block × (block.id ≡ at)
        × (position (λ (instr : Instr). is_value instr.result v) block.instrs ≡ Some i))
        → (block : Block) × Contains (first ∷ blocks) block × (block.id ≡ at)
        × (position (λ (instr : Instr). is_value instr.result v) block.instrs ≡ Some i)
    go None o is later =
        let found = later is in
        (found.0, contains_more first blocks found.0 found.1, found.2, found.3)
    go (Some j) o is later =
        let same = some_pair_parts first.id at j i is in
        (first, (0, omega arith, refl), same.0, o ∙ ap (λ (n : ℕ). Some n) same.1)

unless_param : (f : Function) (v : ℕ) (place : BlockId × ℕ) → place_of f v ≡ Some place
    → given_at f.blocks v ≡ Some place
unless_param f v place is =
    elim (cases_Bool (is_param f.params v)) [
      | inl param ↦ absurd (none-some place (rw param at is))
      | inr other ↦ rw other at is
    ]

-- ---- what holds of an accepted function

module _ (signatures : Signatures) (f : Function) (made : IsWellMade f) (accepted : IsAccepted signatures f) where
  -- a block is the one of its number
  pub block_itself : (block : Block) → Contains f.blocks block → block_of f block.id.0 ≡ Some block
  block_itself block there =
      let at = contained_at f.blocks block there in
      block_alone block.id.0 f.blocks at.0 block (block_once signatures f accepted block.id.0) at.1 refl

  pub given_there : (v : ℕ) (at : BlockId) (i : ℕ) (block : Block) → place_of f v ≡ Some (at, i)
      → block_of f at.0 ≡ Some block
      → (instr : Instr) × (slice_get block.instrs i ≡ Some instr) × (instr.result ≡ Some (record { 0 = v }))
  given_there v at i block is there =
      let found = given_place v f.blocks at i (unless_param f v (at, i) is) in
      let itself : block_of f at.0 ≡ Some found.0 =
      subst (λ (id : BlockId). block_of f id.0 ≡ Some found.0) found.2 (block_itself found.0 found.1) in
      let same : found.0 ≡ block = same_Some found.0 block (sym itself ∙ there) in
      let place : position (λ (instr : Instr). is_value instr.result v) block.instrs ≡ Some i =
      subst (λ (one : Block). position (λ (instr : Instr). is_value instr.result v) one.instrs ≡ Some i) same found.3 in
      let none : Instr = record { result = None; op = Unreachable; words = [] } in
      let first = position-Some (λ (instr : Instr). is_value instr.result v) block.instrs i none place in (
        get_or block.instrs i none,
        slice_get-get_or block.instrs i none first.0,
        is_result v (get_or block.instrs i none).result first.1,
      )
