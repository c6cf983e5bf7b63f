-- Headers of loops, met in one walk over the blocks.
use Rattle.std.proofs.Common.{◌≡◌, ◌==◌, ℕ, ◌+◌, ◌<◌, ◌≤◌, true, List, length, Bool, Some, slice_get, get_or, inl, inr}
use Rattle.std.proofs.Common.{refl, sym, ◌∙◌, ap, arith}
use Rattle.std.specs.Prelude.{Contains, position}
use Rattle.std.specs.List.{position_or_len}
use Rattle.std.proofs.lemmas.Bool.{lt-ltb, eqb-true, eq-eqb}
use Rattle.std.proofs.lemmas.Bool.Decides.{eqb_tells}
use Rattle.std.proofs.lemmas.List.Folds.{find_at}
use Rattle.std.proofs.lemmas.List.Sums.{position_or_len_is, fails_before_first, passes_at_first}
use Rattle.std.proofs.lemmas.Option.{slice_get_within, slice_get_cases, get_or_from_slice_get, slice_get-get_or}
use Rattle.scev_base.specs.declared.ids.BlockId.{BlockId}
use Rattle.ir_model.specs.declared.function.Block.{Block}
use Rattle.ir_model.specs.declared.function.Function.{Function}
use Rattle.ir_model.specs.Shapes.{block_of}
use Rattle.loop_regions.specs.OneBlock.{AreLoops}

-- where the first block of this number stands, or how many blocks there are
abbrev pub place_of : List Block → ℕ → ℕ
place_of blocks b = position_or_len (λ block. block.id.0 == b) blocks

position-is : {X : Type 0} (p : X → Bool) (xs : List X) → position_or_len p xs < length xs
    → position p xs ≡ Some (position_or_len p xs)
position-is p xs within = rw (lt-ltb _ _ within) refl

module _ (f : Function) (headers : List BlockId) (are : AreLoops f headers) where
  -- a header is the number of some block
  pub header_within : (k : ℕ) (b : BlockId) → slice_get headers k ≡ Some b → place_of f.blocks b.0 < length f.blocks
  header_within k b at =
      let header : Contains headers b = (k, slice_get_within headers k b at, get_or_from_slice_get headers k b b at) in
      let back = ((are.each b.0).0 header).back in
      slice_get_within f.blocks _ back.0 (sym (find_at (λ (block : Block). block.id.0 == b.0) f.blocks) ∙ back.1)

  -- the next header stands further on
  pub next_further : (k : ℕ) (b c : BlockId) → slice_get headers k ≡ Some b → slice_get headers (k + 1) ≡ Some c
      → place_of f.blocks b.0 < place_of f.blocks c.0
  next_further k b c at next =
      let before = are.ordered k (k + 1) b (omega arith) (slice_get_within headers (k + 1) c next) in
      let first : get_or headers k b ≡ b = get_or_from_slice_get headers k b b at in
      let second : get_or headers (k + 1) b ≡ c = get_or_from_slice_get headers (k + 1) c b next in
      let before = rw (first, second) at before in
      before (place_of f.blocks b.0) (place_of f.blocks c.0) (position-is _ f.blocks (header_within k b at)) (position-is _ f.blocks (header_within (k + 1) c next))

-- The block at a place has a number that none of those before it has: it is the first one.
pub place_is : (blocks : List Block) (i : ℕ) (d : Block) (b : ℕ) → i < length blocks → i ≤ place_of blocks b
    → (get_or blocks i d).id.0 ≡ b → place_of blocks b ≡ i
place_is blocks i d b within later same =
    position_or_len_is (λ block. block.id.0 == b) blocks i d (omega (arith, within)) (λ k before. fails_before_first (λ block. block.id.0 == b) blocks k d (omega (arith, before, later))) (λ _. eq-eqb _ _ same)

pub found_at : (f : Function) (i : ℕ) (d : Block) (b : ℕ) → i < length f.blocks → place_of f.blocks b ≡ i
    → block_of f b ≡ Some (get_or f.blocks i d)
found_at f i d b within is =
    find_at (λ (block : Block). block.id.0 == b) f.blocks ∙ ap (slice_get f.blocks) is ∙ slice_get-get_or f.blocks i d within

-- A block of another number leaves the place further on.
pub place_past : (blocks : List Block) (i : ℕ) (d : Block) (b : ℕ) → i < length blocks → i ≤ place_of blocks b
    → ((get_or blocks i d).id.0 ≡ b → ⊥) → i + 1 ≤ place_of blocks b
place_past blocks i d b within later other =
    elim (eqb_tells (place_of blocks b) i) [
      | inl here ↦
          let first : ((get_or blocks (place_of blocks b) d).id.0 == b) ≡ true = passes_at_first {X = Block} (λ block. block.id.0 == b) blocks d (omega (arith, within, here.1)) in
          absurd (other (eqb-true _ _ (rw here.1 at first)))
      | inr there ↦ omega (arith, later, there.1)
    ]

module _ (f : Function) (headers : List BlockId) (are : AreLoops f headers) (done i : ℕ) (x : Block) (within : i < length f.blocks) (is : x ≡ get_or f.blocks i x) (later : (b : BlockId) → slice_get headers done ≡ Some b → i ≤ place_of f.blocks b.0) where
  here : slice_get headers done ≡ Some x.id → place_of f.blocks x.id.0 ≡ i
  here at =
      place_is f.blocks i x x.id.0 within (later x.id at) (ap (λ (block : Block). block.id.0) (sym is))

  -- the block is the first one of its number
  pub header_block : slice_get headers done ≡ Some x.id → block_of f x.id.0 ≡ Some x
  header_block at =
      found_at f i x x.id.0 within (here at) ∙ ap Some (sym is)

  -- the header after it stands further on
  pub later_after : slice_get headers done ≡ Some x.id → (b : BlockId) → slice_get headers (done + 1) ≡ Some b
      → i + 1 ≤ place_of f.blocks b.0
  later_after at b next =
      omega (arith, here at, next_further f headers are done x.id b at next)

  -- where the block is no header that is looked for, that one stands further on
  pub later_past : (slice_get headers done ≡ Some x.id → ⊥) → (b : BlockId) → slice_get headers done ≡ Some b
      → i + 1 ≤ place_of f.blocks b.0
  later_past other b at =
      place_past f.blocks i x b.0 within (later b at) (λ same. other (at ∙ ap (λ n. Some (record { 0 = n })) (sym same ∙ ap (λ (block : Block). block.id.0) (sym is))))

-- behind all blocks no header is left
pub none_left : (f : Function) (headers : List BlockId) → AreLoops f headers → (done i : ℕ) → length f.blocks ≤ i
    → done ≤ length headers → ((b : BlockId) → slice_get headers done ≡ Some b → i ≤ place_of f.blocks b.0)
    → done ≡ length headers
none_left f headers are done i end in_list later =
    elim (slice_get_cases headers done).1 [
      | inl there ↦
          absurd (omega (arith, end, later there.0 there.2, header_within f headers are done there.0 there.2))
      | inr past ↦ omega (arith, in_list, past.0)
    ]
