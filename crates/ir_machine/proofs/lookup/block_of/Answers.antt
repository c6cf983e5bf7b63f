use Rattle.std.specs.Prelude.{◌≡◌, ◌≢◌, ℕ, zero, suc, ◌==◌, true, false, Some}
use Rattle.std.specs.Prelude.{List, [], ◌∷◌, map, find, AllPairs, Contains}
use Rattle.std.proofs.Common.{sym, ap, ◌∙◌, subst, arith}
use Rattle.std.proofs.lemmas.Bool.{eq-eqb, ne_eqb}
use Rattle.ir_model.specs.declared.function.Block.{Block}
use Rattle.never_stuck.proofs.Elements.{map_has}
use Rattle.ir_machine.proofs.lookup.block_of.Goals as goal

-- where no two blocks have one number, a block is the first of its number
first_of_number : (blocks : List Block) (b : ℕ) (block : Block)
    → AllPairs (λ (x y : ℕ). x ≢ y) (map (λ (one : Block). one.id.0) blocks) → Contains blocks block
    → block.id.0 ≡ b → Some block ≡ find (λ (one : Block). one.id.0 == b) blocks
first_of_number [] b block apart there is = absurd (omega (arith, there.1))
first_of_number (first ∷ blocks) b block apart (zero, within, same) is =
    let passes : (first.id.0 == b) ≡ true = eq-eqb first.id.0 b (ap (λ (one : Block). one.id.0) same ∙ is) in
    rw passes (ap (λ (one : Block). Some one) (sym same))
first_of_number (first ∷ blocks) b block apart (suc k, within, same) is =
    let numbers = map (λ (one : Block). one.id.0) blocks in
    let there : Contains blocks block = (k, omega arith, same) in
    let later = map_has (λ (one : Block). one.id.0) blocks block there in
    let other : first.id.0 ≢ b =
    λ e. apart 0 (suc later.0) block.id.0 (omega arith) (omega (arith, later.1)) (e ∙ sym is ∙ sym later.2) in
    let fails : (first.id.0 == b) ≡ false = ne_eqb first.id.0 b other in
    let apart_later : AllPairs (λ (x y : ℕ). x ≢ y) numbers =
    λ i j d before within. apart (suc i) (suc j) d (omega arith) (omega arith) in
    rw fails (first_of_number blocks b block apart_later there is)

pub returns-in-Some : goal.returns-in-Some
returns-in-Some c =
    let block = c.in-Some.block.now in
    let found = c.in-Some.ensures in
    let there = subst (λ (blocks : List Block). Contains blocks block) c.as_slice-blocks.ensures found.0 in
    first_of_number _ c.args.b.0 block c.requires there found.1
