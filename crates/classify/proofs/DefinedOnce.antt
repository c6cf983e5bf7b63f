-- What follows where each name is defined once: a register has one definition.
use Rattle.std.specs.Prelude.{◌≡◌, ◌≢◌, ℕ, zero, suc, ◌+◌, ◌<◌, ◌≤◌, ◌==◌, List, [], ◌∷◌, ◌++◌, Bool, true, false, cond}
use Rattle.std.specs.Prelude.{Option, Some, slice_get, find, map, flat_map, count_by, Contains, refl}
use Rattle.std.proofs.Common.{ap, sym, ◌∙◌, arith, inl, inr, ◌⊎◌}
use Rattle.std.proofs.lemmas.Bool.{eq-eqb, ne_eqb, eqb-true, cond-true, cond-false, cases_eq, cases_lt}
use Rattle.std.proofs.lemmas.List.Concat.{flat_map-append}
use Rattle.std.proofs.lemmas.List.Elements.{Contains-append_left}
use Rattle.std.proofs.lemmas.List.Sums.{sum_by-cons, sum_by-append}
use Rattle.std.proofs.lemmas.Option.{none-some, same_Some}
use Rattle.ir_model.specs.declared.function.Param.{Param}
use Rattle.ir_model.specs.declared.function.Instr.{Instr}
use Rattle.ir_model.specs.declared.function.Block.{Block}
use Rattle.ir_model.specs.declared.function.Function.{Function}
use Rattle.ir_meaning.specs.Run.{GivesTo}
use Rattle.ir_model.specs.Shapes.{block_of}
use Rattle.ir_meaning.proofs.RegisterChanges.{GivenOnlyAt}
use Rattle.ir_model.specs.Shapes.{result_of, instructions, defined_values, used_values, defined_blocks, used_blocks}
use Rattle.classify.specs.Names.{NamesAreOnce}

-- how often a list has a number
abbrev pub times : ℕ → List ℕ → ℕ
times v xs = count_by (λ other. other == v) xs

abbrev pub one_or_none : ℕ → ℕ → ℕ
one_or_none x v = cond (x == v) 1 0

pub times_cons : (v x : ℕ) (xs : List ℕ) → times v (x ∷ xs) ≡ one_or_none x v + times v xs
times_cons v x xs = sum_by-cons (λ (other : ℕ). cond (other == v) 1 0) x xs

pub times_append : (v : ℕ) (xs ys : List ℕ) → times v (xs ++ ys) ≡ times v xs + times v ys
times_append v xs ys = sum_by-append (λ (other : ℕ). cond (other == v) 1 0) xs ys

-- a number that a list has at least once stands in it
contains_more : (v x : ℕ) (xs : List ℕ) → Contains xs v → Contains (x ∷ xs) v
contains_more v x xs h = (suc h.0, omega (arith, h.1), h.2)

counted_first : (v x : ℕ) (xs : List ℕ) → (1 ≤ times v xs → Contains xs v) → (x ≡ v) ⊎ (x ≡ v → ⊥)
    → 1 ≤ times v (x ∷ xs) → Contains (x ∷ xs) v
counted_first v x xs rest (inl e) h = (0, omega arith, e)
counted_first v x xs rest (inr apart) h =
    let not : one_or_none x v ≡ 0 = cond-false (x == v) 1 0 (ne_eqb x v apart) in
    let all = times_cons v x xs in
    contains_more v x xs (rest (omega (arith, not, all, h)))

pub counted : (v : ℕ) (xs : List ℕ) → 1 ≤ times v xs → Contains xs v
counted v [] h = absurd (omega arith)
counted v (x ∷ xs) h = counted_first v x xs (counted v xs) (cases_eq x v) h

-- the registers that instructions define
abbrev pub results : List Instr → List ℕ
results instrs = flat_map (λ instr. result_of instr.result) instrs

results_cons : (v : ℕ) (x : Instr) (xs : List Instr)
    → times v (results (x ∷ xs)) ≡ times v (result_of x.result) + times v (results xs)
results_cons v x xs = times_append v (result_of x.result) (results xs)

one_result : (v : ℕ) (instr : Instr) → GivesTo v instr → times v (result_of instr.result) ≡ 1
one_result v instr gives =
    rw gives (times_cons v v [] ∙ ap (λ (k : ℕ). k + 0) (cond-true (v == v) 1 0 (eq-eqb v v refl)))

first_gives : (v : ℕ) (x instr : Instr) → Some x ≡ Some instr → GivesTo v instr → times v (result_of x.result) ≡ 1
first_gives v x instr at gives =
    one_result v x (ap (λ (i : Instr). i.result) (same_Some x instr at) ∙ gives)

-- an instruction that gives the register counts
pub given_counts : (v : ℕ) (instrs : List Instr) (k : ℕ) (instr : Instr) → slice_get instrs k ≡ Some instr
    → GivesTo v instr → 1 ≤ times v (results instrs)
given_counts v [] k instr at gives = absurd (none-some instr at)
given_counts v (x ∷ xs) zero instr at gives =
    omega (arith, results_cons v x xs, first_gives v x instr at gives)
given_counts v (x ∷ xs) (suc k) instr at gives =
    let rest = given_counts v xs k instr at gives in
    omega (arith, results_cons v x xs, rest)

-- two of them count twice
pub given_twice : (v : ℕ) (instrs : List Instr) (j k : ℕ) (one other : Instr) → slice_get instrs j ≡ Some one
    → GivesTo v one → slice_get instrs k ≡ Some other → GivesTo v other → j ≢ k → 2 ≤ times v (results instrs)
given_twice v [] j k one other at gives there gives' apart = absurd (none-some one at)
given_twice v (x ∷ xs) zero zero one other at gives there gives' apart = absurd (apart refl)
given_twice v (x ∷ xs) zero (suc k) one other at gives there gives' apart =
    let rest = given_counts v xs k other there gives' in
    omega (arith, results_cons v x xs, first_gives v x one at gives, rest)
given_twice v (x ∷ xs) (suc j) zero one other at gives there gives' apart =
    let rest = given_counts v xs j one at gives in
    omega (arith, results_cons v x xs, first_gives v x other there gives', rest)
given_twice v (x ∷ xs) (suc j) (suc k) one other at gives there gives' apart =
    let rest = given_twice v xs j k one other at gives there gives' (λ e. apart (ap suc e)) in
    omega (arith, results_cons v x xs, rest)

-- the instructions of all blocks
abbrev pub all_results : List Block → List ℕ
all_results blocks = results (instructions blocks)

blocks_cons : (v : ℕ) (x : Block) (xs : List Block)
    → times v (all_results (x ∷ xs)) ≡ times v (results x.instrs) + times v (all_results xs)
blocks_cons v x xs =
    ap (λ (found : List ℕ). times v found) (flat_map-append (λ (instr : Instr). result_of instr.result) x.instrs (instructions xs)) ∙ times_append v (results x.instrs) (all_results xs)

-- where a search comes to its end: the first one passes, or it is found among the others
found_first : {X : Type 0} (x y : X) (xs : List X) (b : Bool) (o : Option X) → cond b (Some x) o ≡ Some y
    → ((b ≡ true) × (x ≡ y)) ⊎ ((b ≡ false) × (o ≡ Some y))
found_first x y xs true o e = inl (refl, same_Some x y e)
found_first x y xs false o e = inr (refl, e)

pub block_counts : (v b : ℕ) (blocks : List Block) (block : Block) → find (λ one. one.id.0 == b) blocks ≡ Some block
    → times v (results block.instrs) ≤ times v (all_results blocks)
block_counts v b [] block found = absurd (none-some block found)
block_counts v b (x ∷ xs) block found =
    let all = blocks_cons v x xs in
    go all (block_counts v b xs block) (found_first x block xs (x.id.0 == b) (find (λ (one : Block). one.id.0 == b) xs) found)
  where
    go : times v (all_results (x ∷ xs)) ≡ times v (results x.instrs) + times v (all_results xs)
        → (find (λ one. one.id.0 == b) xs ≡ Some block → times v (results block.instrs) ≤ times v (all_results xs))
        → (((x.id.0 == b) ≡ true) × (x ≡ block)) ⊎ (((x.id.0 == b) ≡ false) × (find (λ one. one.id.0 == b) xs ≡ Some block))
        → times v (results block.instrs) ≤ times v (all_results (x ∷ xs))
    go all rest (inl here) =
        let same = ap (λ (one : Block). times v (results one.instrs)) here.1 in
        omega (arith, all, same)
    go all rest (inr there) =
        let more = rest there.1 in
        omega (arith, all, more)

-- two blocks of different numbers
pub blocks_count : (v a b : ℕ) (blocks : List Block) (one other : Block) → a ≢ b
    → find (λ x. x.id.0 == a) blocks ≡ Some one → find (λ x. x.id.0 == b) blocks ≡ Some other
    → times v (results one.instrs) + times v (results other.instrs) ≤ times v (all_results blocks)
blocks_count v a b [] one other apart found found' = absurd (none-some one found)
blocks_count v a b (x ∷ xs) one other apart found found' =
    go (blocks_count v a b xs one other apart) (found_first x one xs (x.id.0 == a) (find (λ (y : Block). y.id.0 == a) xs) found) (found_first x other xs (x.id.0 == b) (find (λ (y : Block). y.id.0 == b) xs) found')
  where
    go : (find (λ y. y.id.0 == a) xs ≡ Some one → find (λ y. y.id.0 == b) xs ≡ Some other → times v (results one.instrs) + times v (results other.instrs) ≤ times v (all_results xs))
        → (((x.id.0 == a) ≡ true) × (x ≡ one)) ⊎ (((x.id.0 == a) ≡ false) × (find (λ y. y.id.0 == a) xs ≡ Some one))
        → (((x.id.0 == b) ≡ true) × (x ≡ other)) ⊎ (((x.id.0 == b) ≡ false) × (find (λ y. y.id.0 == b) xs ≡ Some other))
        → times v (results one.instrs) + times v (results other.instrs) ≤ times v (all_results (x ∷ xs))
    go rest (inl here) (inl here') =
        absurd (apart (sym (eqb-true x.id.0 a here.0) ∙ eqb-true x.id.0 b here'.0))
    go rest (inl here) (inr there') =
        let same = ap (λ (y : Block). times v (results y.instrs)) here.1 in
        let more = block_counts v b xs other there'.1 in
        omega (arith, blocks_cons v x xs, same, more)
    go rest (inr there) (inl here') =
        let same = ap (λ (y : Block). times v (results y.instrs)) here'.1 in
        let more = block_counts v a xs one there.1 in
        omega (arith, blocks_cons v x xs, same, more)
    go rest (inr there) (inr there') =
        let more = rest there.1 there'.1 in
        omega (arith, blocks_cons v x xs, more)

-- what has the number in a list that is mapped to numbers counts
mapped_first : {X : Type 0} (number : X → ℕ) (v : ℕ) (x : X) (xs : List X)
    → times v (map number (x ∷ xs)) ≡ one_or_none (number x) v + times v (map number xs)
mapped_first number v x xs = times_cons v (number x) (map number xs)

pub mapped_counts : {X : Type 0} (number : X → ℕ) (v : ℕ) (xs : List X) (k : ℕ) (x : X) → slice_get xs k ≡ Some x
    → number x ≡ v → 1 ≤ times v (map number xs)
mapped_counts number v [] k x at is = absurd (none-some x at)
mapped_counts number v (y ∷ ys) zero x at is =
    let same : number y ≡ v = ap number (same_Some y x at) ∙ is in
    let one : one_or_none (number y) v ≡ 1 = cond-true (number y == v) 1 0 (eq-eqb (number y) v same) in
    omega (arith, mapped_first number v y ys, one)
mapped_counts number v (y ∷ ys) (suc k) x at is =
    let rest = mapped_counts number v ys k x at is in
    omega (arith, mapped_first number v y ys, rest)

-- The register is defined at most once, in all.
pub at_most_once : (f : Function) (v : ℕ) → NamesAreOnce f
    → times v (map (λ p. p.value.0) f.params) + times v (all_results f.blocks) ≤ 1
at_most_once f v names =
    go (cases_lt 0 (times v (defined_values f)))
  where
    go : (0 < times v (defined_values f)) ⊎ (times v (defined_values f) ≤ 0)
        → times v (map (λ p. p.value.0) f.params) + times v (all_results f.blocks) ≤ 1
    go (inl some) =
        let once : times v (defined_values f) ≡ 1 = names.values v (Contains-append_left (defined_values f) (used_values f) v (counted v (defined_values f) some)) in
        omega (arith, once, times_append v (map (λ (p : Param). p.value.0) f.params) (all_results f.blocks))
    go (inr none) =
        omega (arith, none, times_append v (map (λ (p : Param). p.value.0) f.params) (all_results f.blocks))

-- An instruction of a block gives the register: no other one of the block does.
pub only_there : (f : Function) (b v k : ℕ) (block : Block) (instr : Instr) → NamesAreOnce f → block_of f b ≡ Some block
    → slice_get block.instrs k ≡ Some instr → GivesTo v instr → GivenOnlyAt block.instrs v k
only_there f b v k block instr names found at gives j other there gives' =
    elim (cases_eq j k) [
      | inl e ↦ e
      | inr apart ↦ absurd (omega (arith, at_most_once f v names, block_counts v b f.blocks block found, given_twice v block.instrs j k other instr there gives' at gives apart))
    ]

-- no block of another number has an instruction that does
pub only_in_block : (f : Function) (a b v j k : ℕ) (one other : Block) (instr instr' : Instr) → NamesAreOnce f
    → block_of f a ≡ Some one → block_of f b ≡ Some other → slice_get one.instrs j ≡ Some instr → GivesTo v instr
    → slice_get other.instrs k ≡ Some instr' → GivesTo v instr' → a ≡ b
only_in_block f a b v j k one other instr instr' names found found' at gives at' gives' =
    elim (cases_eq a b) [
      | inl e ↦ e
      | inr apart ↦ absurd (omega (arith, at_most_once f v names, blocks_count v a b f.blocks one other apart found found', given_counts v one.instrs j instr at gives, given_counts v other.instrs k instr' at' gives'))
    ]

-- and no parameter is the register
pub no_param : (f : Function) (b v k i : ℕ) (block : Block) (instr : Instr) (param : Param) → NamesAreOnce f
    → block_of f b ≡ Some block → slice_get block.instrs k ≡ Some instr → GivesTo v instr
    → slice_get f.params i ≡ Some param → param.value.0 ≡ v → ⊥
no_param f b v k i block instr param names found at gives stands is =
    omega (arith, at_most_once f v names, block_counts v b f.blocks block found, given_counts v block.instrs k instr at gives, mapped_counts (λ (p : Param). p.value.0) v f.params i param stands is)

-- where one block alone has the number, it is the one that is found
found_alone : (b : ℕ) (blocks : List Block) (k : ℕ) (block : Block) → slice_get blocks k ≡ Some block → block.id.0 ≡ b
    → times b (map (λ one. one.id.0) blocks) ≤ 1 → find (λ one. one.id.0 == b) blocks ≡ Some block
found_alone b [] k block at is once = absurd (none-some block at)
found_alone b (x ∷ xs) zero block at is once =
    let same : x.id.0 ≡ b = ap (λ (one : Block). one.id.0) (same_Some x block at) ∙ is in
    cond-true (x.id.0 == b) (Some x) (find (λ (one : Block). one.id.0 == b) xs) (eq-eqb x.id.0 b same) ∙ at
found_alone b (x ∷ xs) (suc k) block at is once =
    let rest = mapped_counts (λ (one : Block). one.id.0) b xs k block at is in
    let apart : x.id.0 ≡ b → ⊥ = λ e. absurd (omega (arith, mapped_first (λ (one : Block). one.id.0) b x xs, cond-true {A = ℕ} (x.id.0 == b) 1 0 (eq-eqb x.id.0 b e), rest, once)) in
    let none : one_or_none x.id.0 b ≡ 0 = cond-false (x.id.0 == b) 1 0 (ne_eqb x.id.0 b apart) in
    cond-false (x.id.0 == b) (Some x) (find (λ (one : Block). one.id.0 == b) xs) (ne_eqb x.id.0 b apart) ∙ found_alone b xs k block at is (omega (arith, mapped_first (λ (one : Block). one.id.0) b x xs, none, once))

-- each block is the one that its number finds
pub block_found : (f : Function) (k : ℕ) (block : Block) → NamesAreOnce f → slice_get f.blocks k ≡ Some block
    → block_of f block.id.0 ≡ Some block
block_found f k block names at =
    let some = mapped_counts (λ (one : Block). one.id.0) block.id.0 f.blocks k block at refl in
    let once : times block.id.0 (defined_blocks f) ≡ 1 = names.blocks block.id.0 (Contains-append_left (defined_blocks f) (used_blocks f) block.id.0 (counted block.id.0 (defined_blocks f) some)) in
    found_alone block.id.0 f.blocks k block at refl (omega (arith, once))
