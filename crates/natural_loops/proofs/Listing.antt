-- Marked blocks in text order.
use Rattle.std.proofs.Common.{◌≡◌, ◌≢◌, ◌↔◌, ◌==◌, ℕ, zero, suc, Bool, false, List, [], ◌∷◌, get_or, map, filter, Some}
use Rattle.std.proofs.Common.{◌+◌, ◌<◌, ◌++◌, length, take, AllPairs, Contains, eqb-true, refl, sym, ap, ◌∙◌}
use Rattle.std.proofs.Common.{subst, arith}
use Rattle.std.proofs.lemmas.List.{take_more, map-append, append-nil}
use Rattle.std.proofs.lemmas.List.Elements.{filter-append}
use Rattle.std.proofs.lemmas.List.Kept.{AllPairs-filter}
use Rattle.scev_base.specs.declared.ids.BlockId.{BlockId}
use Rattle.ir_model.specs.declared.function.Block.{Block}
use Rattle.ir_model.specs.declared.function.Function.{Function}
use Rattle.ir_model.specs.Shapes.{block_of, defined_blocks}
use Rattle.flow_graph.specs.Graph.{IsMarked}
use Rattle.flow_graph.specs.TextOrder.{StandsBefore}
use Rattle.flow_graph.proofs.ArcLemmas.{find_is}
use Rattle.flow_graph.proofs.FlowLemmas.{filter_only, filter_has, in_text_order, numbered, numbers_of_blocks}
use Rattle.natural_loops.specs.Sides.{AreInTextOrder}

map_has : {X Y : Type 0} (g : X → Y) (xs : List X) (x : X) → Contains xs x → Contains (map g xs) (g x)
map_has g [] x there = absurd (omega (arith, there.1))
map_has g (y ∷ ys) x (zero, within, is) = (zero, omega arith, ap g is)
map_has g (y ∷ ys) x (suc k, within, is) =
    let later = map_has g ys x (k, omega arith, is) in
    (suc later.0, omega (arith, later.1), later.2)

-- the number of a block is among those that are defined
pub number_defined : (f : Function) (b : ℕ) (block : Block) → block_of f b ≡ Some block → Contains (defined_blocks f) b
number_defined f b block found =
    let is = find_is (λ block. block.id.0 == b) f.blocks block found in
    subst (Contains (defined_blocks f)) (eqb-true block.id.0 b is.1)
    (map_has (λ (block : Block). block.id.0) f.blocks block is.0)

-- the marked ones of a function's blocks
pub marked_in_order : (f : Function) (marks : List Bool) → AllPairs (λ a b. a ≢ b) (defined_blocks f)
    → ((b : ℕ) → IsMarked marks b → (block : Block) × (block_of f b ≡ Some block))
    → AreInTextOrder f (IsMarked marks)
    (filter (λ (b : BlockId). get_or marks b.0 false) (map (λ (block : Block). block.id) f.blocks))
marked_in_order f marks once each =
    let test : BlockId → Bool = λ b. get_or marks b.0 false in
    let ids : List BlockId = map (λ (block : Block). block.id) f.blocks in
    let are = numbers_of_blocks f.blocks ids refl in
    record {
      each = λ b. (
        (λ there. (filter_only test ids b there).1),
        (λ h.
            let block = each b.0 h in
            filter_has test ids b ((numbered ids (defined_blocks f) are b).1 (number_defined f b.0 block.0 block.1)) h),
      );
      ordered = AllPairs-filter (λ (a b : BlockId). StandsBefore f a.0 b.0) test ids (in_text_order f once ids are);
    }

-- the marked ones of so many blocks
abbrev pub marked_of : List Bool → List Block → List BlockId
marked_of marks blocks = filter (λ (b : BlockId). get_or marks b.0 false) (map (λ (block : Block). block.id) blocks)

-- one more block
marked_more : (marks : List Bool) (blocks : List Block) (i : ℕ) (block : Block) → i < length blocks
    → block ≡ get_or blocks i block
    → marked_of marks (take (i + 1) blocks) ≡ marked_of marks (take i blocks) ++ marked_of marks (block ∷ [])
marked_more marks blocks i block within is =
    let test : BlockId → Bool = λ b. get_or marks b.0 false in
    let id : Block → BlockId = λ block. block.id in
    let front : take (i + 1) blocks ≡ take i blocks ++ block ∷ [] =
    take_more blocks i block within ∙ ap (λ (one : Block). take i blocks ++ one ∷ []) (sym is) in
    ap (marked_of marks) front ∙ ap (filter test) (map-append id (take i blocks) (block ∷ []))
    ∙ filter-append test (map id (take i blocks)) (block.id ∷ [])

-- one that is marked, and one that isn't
pub marked_more_one : (marks : List Bool) (blocks : List Block) (i : ℕ) (block : Block) → i < length blocks
    → block ≡ get_or blocks i block → IsMarked marks block.id.0
    → marked_of marks (take (i + 1) blocks) ≡ marked_of marks (take i blocks) ++ block.id ∷ []
marked_more_one marks blocks i block within is marked =
    let one : marked_of marks (block ∷ []) ≡ block.id ∷ [] = rw marked refl in
    marked_more marks blocks i block within is ∙ ap (λ (ids : List BlockId). marked_of marks (take i blocks) ++ ids) one

pub marked_more_none : (marks : List Bool) (blocks : List Block) (i : ℕ) (block : Block) → i < length blocks
    → block ≡ get_or blocks i block → get_or marks block.id.0 false ≡ false
    → marked_of marks (take (i + 1) blocks) ≡ marked_of marks (take i blocks)
marked_more_none marks blocks i block within is unmarked =
    let none : marked_of marks (block ∷ []) ≡ [] = rw unmarked refl in
    marked_more marks blocks i block within is
    ∙ ap (λ (ids : List BlockId). marked_of marks (take i blocks) ++ ids) none
    ∙ append-nil (marked_of marks (take i blocks))

-- what holds of the same blocks has the same list
pub in_order_same : (f : Function) (P Q : ℕ → Type 0) (blocks : List BlockId) → ((b : ℕ) → P b ↔ Q b)
    → AreInTextOrder f P blocks → AreInTextOrder f Q blocks
in_order_same f P Q blocks same are = record {
  each = λ b. ((λ there. (same b.0).0 ((are.each b).0 there)), (λ h. (are.each b).1 ((same b.0).1 h)));
  ordered = are.ordered;
}
