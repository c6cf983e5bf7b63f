-- A function has one list of its loops of one block.
use Rattle.std.proofs.Common.{◌≡◌, ◌==◌, ℕ, ◌<◌, Bool, List, length, Some, position, find, refl, sym, ◌∙◌, arith}
use Rattle.std.specs.List.{position_or_len}
use Rattle.std.proofs.lemmas.Bool.{lt-ltb}
use Rattle.std.proofs.lemmas.List.Folds.{find_at}
use Rattle.std.proofs.lemmas.Option.{slice_get_within}
use Rattle.scev_base.specs.declared.ids.BlockId.{BlockId}
use Rattle.ir_model.specs.declared.function.Block.{Block}
use Rattle.ir_model.specs.declared.function.Function.{Function}
use Rattle.flow_graph.specs.TextOrder.{StandsBefore}
use Rattle.loop_regions.specs.OneBlock.{IsOneBlockLoop, AreLoops}
use Rattle.loop_regions.proofs.OrderedLemmas.{one_ordered}

-- what is found stands somewhere
found_place : {X : Type 0} (p : X → Bool) (xs : List X) (x : X) → find p xs ≡ Some x → (i : ℕ) × (position p xs ≡ Some i)
found_place p xs x there =
    let n = position_or_len p xs in
    let inside : n < length xs = slice_get_within xs n x (sym (find_at p xs) ∙ there) in
    (n, rw (lt-ltb n (length xs) inside) refl)

-- of two loops one stands before the other one
not_both_before : (f : Function) (a b : BlockId) → IsOneBlockLoop f a.0 → IsOneBlockLoop f b.0 → StandsBefore f a.0 b.0 → StandsBefore f b.0 a.0 → ⊥
not_both_before f a b is_a is_b a_first b_first =
    let i = found_place (λ (block : Block). block.id.0 == a.0) f.blocks is_a.back.0 is_a.back.1 in
    let j = found_place (λ (block : Block). block.id.0 == b.0) f.blocks is_b.back.0 is_b.back.1 in
    omega (arith, a_first i.0 j.0 i.1 j.1, b_first j.0 i.0 j.1 i.1)

pub one_table : (f : Function) (x y : List BlockId) → AreLoops f x → AreLoops f y → x ≡ y
one_table f x y is_x is_y =
    one_ordered (λ (a b : BlockId). StandsBefore f a.0 b.0) (λ a. IsOneBlockLoop f a.0) (not_both_before f) x y (λ a there. (is_x.each a.0).0 there) (λ a. (
      (λ there. (is_y.each a.0).1 ((is_x.each a.0).0 there)),
      (λ there. (is_x.each a.0).1 ((is_y.each a.0).0 there)),
    )) is_x.ordered is_y.ordered
