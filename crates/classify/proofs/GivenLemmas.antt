-- The instruction that gives a register, by the definitions that were found, and by its name where that is once.
use Rattle.std.specs.Prelude.{◌≡◌, ◌⊎◌, ◌==◌, ℕ, zero, suc, ◌+◌, ◌<◌, ◌≤◌, List, [], ◌∷◌, length, Option, Some, None}
use Rattle.std.specs.Prelude.{Contains, slice_get, find, map}
use Rattle.std.proofs.Common.{ap, sym, subst, ◌∙◌, arith, get_or, refl, inl, inr}
use Rattle.std.proofs.lemmas.Bool.{eq-eqb, ne_eqb, cond-true, cond-false, cases_eq}
use Rattle.std.proofs.lemmas.List.Elements.{Contains-append_left}
use Rattle.std.proofs.lemmas.Option.{none-some, same_Some, slice_get_cases, slice_get-get_or}
use Rattle.ir_model.specs.declared.op.Op.{Op}
use Rattle.ir_model.specs.declared.function.Instr.{Instr}
use Rattle.ir_model.specs.declared.function.Block.{Block}
use Rattle.ir_model.specs.declared.function.Function.{Function}
use Rattle.ir_meaning.specs.Run.{GivesTo}
use Rattle.ir_model.specs.Shapes.{block_of}
use Rattle.ir_meaning.specs.Thin.{HasResult, AreThinInstrs, IsThinFunction}
use Rattle.ir_meaning.proofs.ListPlaces.{contained_at, all_at, found_there}
use Rattle.ir_model.specs.Shapes.{defined_blocks, used_blocks}
use Rattle.classify.specs.Names.{NamesAreOnce}
use Rattle.classify.specs.Definitions.{Found, IsGivenAt, AreDefinitions}
use Rattle.classify.specs.Recurrence.{Has}
use Rattle.classify.proofs.DefinedOnce.{times, one_or_none, times_cons, counted, mapped_counts, only_in_block}
use Rattle.classify.proofs.OneAnswer.{one_gives}

-- a register that an instruction of the thin forms gives stands in the table
has_result : (values v : ℕ) (instr : Instr) → HasResult values instr.result → GivesTo v instr → v < values
has_result values v instr has gives = subst (HasResult values) gives has

given_within : (values labels v : ℕ) (instrs : List Instr) (j : ℕ) (instr : Instr) → AreThinInstrs values labels instrs
    → slice_get instrs j ≡ Some instr → GivesTo v instr → v < values
given_within values labels v [] j instr thin at gives = absurd thin
given_within values labels v (x ∷ []) zero instr thin at gives =
    absurd (none-some (record { 0 = v }) (sym thin.0 ∙ ap (λ (i : Instr). i.result) (same_Some x instr at) ∙ gives))
given_within values labels v (x ∷ []) (suc j) instr thin at gives = absurd (none-some instr at)
given_within values labels v (x ∷ y ∷ more) zero instr thin at gives =
    has_result values v x thin.0 (ap (λ (i : Instr). i.result) (same_Some x instr at) ∙ gives)
given_within values labels v (x ∷ y ∷ more) (suc j) instr thin at gives =
    given_within values labels v (y ∷ more) j instr thin.2 at gives

-- there is nothing past a list's end alone
none_past : {X : Type 0} (xs : List X) (i : ℕ) → slice_get xs i ≡ None → length xs ≤ i
none_past xs i e =
    elim (slice_get_cases xs i).1 [
      | inl h ↦ absurd (none-some h.0 (sym e ∙ h.2))
      | inr h ↦ h.0
    ]

-- what is read at a place stands there
pub read_there : {X : Type 0} (xs ys : List X) (i : ℕ) (x : X) → ys ≡ xs → i < length ys → x ≡ get_or ys i x
    → slice_get xs i ≡ Some x
read_there xs ys i x same within is =
    subst (λ (zs : List _). slice_get zs i ≡ Some x) same (slice_get-get_or ys i x within ∙ ap (λ (y : _). Some y) (sym is))

-- no place was found: no instruction gives the register
pub not_given : (f : Function) (found : Found) (v : ℕ) → IsThinFunction f → AreDefinitions f found
    → ((place : ℕ × ℕ) → slice_get found.places v ≡ Some (Some place) → ⊥) → (place : ℕ × ℕ) → IsGivenAt f v place → ⊥
not_given f found v thin definitions none place given =
    let block = all_at (λ (b : Block). (b.id.0 < length f.labels) × AreThinInstrs (length f.values) (length f.labels) b.instrs) f.blocks place.0 given.0 thin.blocks given.2 in
    let small = given_within (length f.values) (length f.labels) v given.0.instrs place.1 given.1 block.1 given.3 given.4 in
    go small (slice_get found.places v) refl
  where
    go : v < length f.values → (o : Option (Option (ℕ × ℕ))) → slice_get found.places v ≡ o → ⊥
    go small None e = absurd (omega (arith, small, definitions.count, none_past found.places v e))
    go small (Some None) e = definitions.none v place e given
    go small (Some (Some other)) e = none other e

-- the first block with a number is the only one
first_block : (b : ℕ) (blocks : List Block) (k : ℕ) (block : Block) → times b (map (λ x. x.id.0) blocks) ≤ 1
    → slice_get blocks k ≡ Some block → block.id.0 ≡ b → find (λ x. x.id.0 == b) blocks ≡ Some block
first_block b [] k block once at is = absurd (none-some block at)
first_block b (x ∷ xs) zero block once at is =
    let same = same_Some x block at in
    cond-true (x.id.0 == b) (Some x) (find (λ (y : Block). y.id.0 == b) xs) (eq-eqb x.id.0 b (ap (λ (y : Block). y.id.0) same ∙ is)) ∙ at
first_block b (x ∷ xs) (suc k) block once at is =
    go (λ once'. first_block b xs k block once' at is) (cases_eq x.id.0 b)
  where
    more : times b (map (λ y. y.id.0) (x ∷ xs)) ≡ one_or_none x.id.0 b + times b (map (λ y. y.id.0) xs)
    more = times_cons b x.id.0 (map (λ (y : Block). y.id.0) xs)

    go : (times b (map (λ y. y.id.0) xs) ≤ 1 → find (λ y. y.id.0 == b) xs ≡ Some block)
        → (x.id.0 ≡ b) ⊎ (x.id.0 ≡ b → ⊥) → find (λ y. y.id.0 == b) (x ∷ xs) ≡ Some block
    go rest (inl e) =
        let one : one_or_none x.id.0 b ≡ 1 = cond-true (x.id.0 == b) 1 0 (eq-eqb x.id.0 b e) in
        absurd (omega (arith, once, more, one, mapped_counts (λ (y : Block). y.id.0) b xs k block at is))
    go rest (inr apart) =
        let none : one_or_none x.id.0 b ≡ 0 = cond-false (x.id.0 == b) 1 0 (ne_eqb x.id.0 b apart) in
        cond-false (x.id.0 == b) (Some x) (find (λ (y : Block). y.id.0 == b) xs) (ne_eqb x.id.0 b apart) ∙ rest (omega (arith, once, more, none))

-- a block with a name of its own is found by it
pub found_by_name : (f : Function) (block : Block) → NamesAreOnce f → Contains f.blocks block
    → block_of f block.id.0 ≡ Some block
found_by_name f block names there =
    let at = contained_at f.blocks block there in
    let some = mapped_counts (λ (x : Block). x.id.0) block.id.0 f.blocks at.0 block at.1 refl in
    let once : times block.id.0 (defined_blocks f) ≡ 1 = names.blocks block.id.0 (Contains-append_left (defined_blocks f) (used_blocks f) block.id.0 (counted block.id.0 (defined_blocks f) some)) in
    first_block block.id.0 f.blocks at.0 block (omega (arith, once)) at.1 refl

-- An instruction gives the register, and stands in a block of the function.
abbrev pub IsGivenBy : Function → ℕ → Block → Instr → Type 0
IsGivenBy f v block instr = Contains f.blocks block × Contains block.instrs instr × (instr.result ≡ Some (record { 0 = v }))

-- what a block has by its name has a place
pub given_at : (f : Function) (b v : ℕ) (block : Block) (op : Op) → block_of f b ≡ Some block → Has block v op
    → (place : ℕ × ℕ) × IsGivenAt f v place
given_at f b v block op is has =
    let at = found_there (λ (x : Block). x.id.0 == b) f.blocks block is in
    let at' = contained_at block.instrs has.0 has.1 in
    ((at.0, at'.0), (block, has.0, at.1, at'.1, has.2))

-- What a block has by its name is what the instruction that gives the register does.
pub as_named : (f : Function) (b v : ℕ) (block named : Block) (instr : Instr) (op : Op) → NamesAreOnce f
    → IsGivenBy f v block instr → block_of f b ≡ Some named → Has named v op
    → (block.id.0 ≡ b) × (block ≡ named) × (instr.op ≡ op)
as_named f b v block named instr op names given is has =
    let found = found_by_name f block names given.0 in
    let at = contained_at block.instrs instr given.1 in
    let at' = contained_at named.instrs has.0 has.1 in
    let same : block.id.0 ≡ b = only_in_block f block.id.0 b v at.0 at'.0 block named instr has.0 names found is at.1 given.2 at'.1 has.2 in
    let one : block ≡ named = same_Some block named (sym found ∙ ap (λ (a : ℕ). block_of f a) same ∙ is) in
    let instr' = one_gives f b v named instr has.0 names is (subst (λ (x : Block). Contains x.instrs instr) one given.1) given.2 has.1 has.2 in
    (same, one, ap (λ (i : Instr). i.op) instr' ∙ has.3)
