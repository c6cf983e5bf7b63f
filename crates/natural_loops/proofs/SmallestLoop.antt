-- The smallest of some loops of which something holds.
use Rattle.std.proofs.Common.{◌≡◌, ◌⊎◌, ℕ, Bool, true, false, List, [], ◌∷◌, ◌++◌, get_or, Option, Some, None, All}
use Rattle.std.proofs.Common.{Contains}
use Rattle.std.proofs.Common.{◌==◌, eqb-true, ap, slice_get, IsTrue, refl, sym, ◌∙◌, subst, inl, inr}
use Rattle.std.proofs.lemmas.Bool.{false≢true, both_ways, eq-eqb}
use Rattle.std.specs.Option.{option_eq}
use Rattle.std.proofs.lemmas.List.Elements.{All-head, All-tail, All-contains, Contains-push_cases}
use Rattle.scev_base.specs.declared.ids.BlockId.{BlockId}
use Rattle.ir_model.specs.declared.function.Function.{Function}
use Rattle.ir_model.specs.Walks.{Walk}
use Rattle.flow_graph.specs.Graph.{IsMarked}
use Rattle.flow_graph.specs.EdgeLists.{block_id}
use Rattle.loop_regions.specs.Loops.{Loop, IsRegion, IsLoop}
use Rattle.natural_loops.specs.Table.{RegionParts, IsRegionOf, loop_of, HasBlocksOf, IsSmallest}
use Rattle.natural_loops.proofs.Marks.{marked_contains}
use Rattle.ssa_check.proofs.Elements.{cases_contains, contains_at}
use Rattle.natural_loops.proofs.Nesting.{header_inside}

-- what a test says of a header that may be none
pub same_header : (x : Option BlockId) (h : BlockId) → option_eq (λ a b. a.0 == b.0) x (Some h) ≡ true → x ≡ Some h
same_header None h is = absurd (false≢true is)
same_header (Some y) h is = ap (λ (k : ℕ). Some (block_id k)) (eqb-true y.0 h.0 is)

pub header_same : (x : Option BlockId) (h : BlockId) → x ≡ Some h → option_eq (λ a b. a.0 == b.0) x (Some h) ≡ true
header_same x h is =
    subst (λ (y : Option BlockId). option_eq (λ a b. a.0 == b.0) y (Some h) ≡ true) (sym is) (eq-eqb h.0 h.0 refl)

-- ---- loops with a block in common

module _ (f : Function) where
  -- a walk inside a region that begins outside another one and ends in it passes the header of that one, or ends there
  walk_enters : (l k : Loop) → IsRegion f l → IsRegion f k → (a b : ℕ) (between : List ℕ) → Contains k.blocks a
      → (Contains l.blocks a → ⊥) → Contains k.blocks b → Contains l.blocks b → All (Contains k.blocks) between
      → Walk f a between b → Contains k.blocks l.header
  walk_enters l k first second a b [] from out also held all edge =
      subst (Contains k.blocks) (first.entered a b (second.reachable a from) out held edge) also
  walk_enters l k first second a b (c ∷ between) from out also held all walk =
      let own : Contains k.blocks c = All-head (Contains k.blocks) c between all in
      elim (cases_contains l.blocks c) [
        | inl inside ↦
            subst (Contains k.blocks) (first.entered a c (second.reachable a from) out inside walk.0) own
        | inr still ↦
            walk_enters l k first second c b between own still also held (All-tail (Contains k.blocks) c between all)
            walk.1
      ]

  -- of two loops that have a block in common one has the header of the other, also where an edge leads to the entry
  pub meets : (l k : Loop) → IsLoop f l → IsLoop f k → (b : ℕ) → Contains l.blocks b → Contains k.blocks b
      → Contains l.blocks k.header ⊎ Contains k.blocks l.header
  meets l k first second b held also =
      elim (cases_contains l.blocks k.header) [
        | inl there ↦ inl there
        | inr out ↦
            let header = second.region.header in
            let walk = second.region.connected k.header b header also in
            inr (walk_enters l k first.region second.region k.header b walk.0 header out also held walk.1 walk.2)
      ]

  -- what is known of loops by their marks
  pub header_marked : (inner outer : RegionParts) → IsRegionOf f inner → IsRegionOf f outer
      → IsMarked outer.blocks inner.header.0 → HasBlocksOf outer inner
  header_marked inner outer first second marked b there =
      (marked_contains outer.blocks b).0
      (header_inside f (loop_of inner) (loop_of outer) first.is_loop second.is_loop
      ((marked_contains outer.blocks inner.header.0).1 marked) b ((marked_contains inner.blocks b).1 there))

  pub marks_meet : (one other : RegionParts) → IsRegionOf f one → IsRegionOf f other → (b : ℕ) → IsMarked one.blocks b
      → IsMarked other.blocks b → IsMarked one.blocks other.header.0 ⊎ IsMarked other.blocks one.header.0
  marks_meet one other first second b held also =
      elim (meets (loop_of one) (loop_of other) first.is_loop second.is_loop b ((marked_contains one.blocks b).1 held)
      ((marked_contains other.blocks b).1 also)) [
        | inl there ↦ inl ((marked_contains one.blocks other.header.0).0 there)
        | inr there ↦ inr ((marked_contains other.blocks one.header.0).0 there)
      ]

-- ---- the smallest among those that were seen

-- the position of the smallest one among some loops
abbrev pub IsSmallestAmong : List RegionParts → List RegionParts → (RegionParts → Type 0) → Option ℕ → Type 0
IsSmallestAmong regions seen P (Some k) = (region : RegionParts) × (slice_get regions k ≡ Some region) × P region
    × ((other : RegionParts) → Contains seen other → P other → HasBlocksOf other region)
IsSmallestAmong regions seen P None = (region : RegionParts) → Contains seen region → P region → ⊥

pub IsSmallestAmong_all : (regions : List RegionParts) (P : RegionParts → Type 0) (found : Option ℕ)
    → IsSmallestAmong regions regions P found → IsSmallest regions P found
IsSmallestAmong_all regions P (Some k) least = least
IsSmallestAmong_all regions P None none = none

module _ (f : Function) (regions : List RegionParts) (each : All (IsRegionOf f) regions) (P : RegionParts → Type 0)
    (b : ℕ) (holds : (region : RegionParts) → P region → IsMarked region.blocks b) (seen : List RegionParts)
    (region : RegionParts)
  where
    -- one more loop, of which P doesn't hold
    pub IsSmallestAmong_skip : (P region → ⊥) → (found : Option ℕ) → IsSmallestAmong regions seen P found
        → IsSmallestAmong regions (seen ++ region ∷ []) P found
    IsSmallestAmong_skip none (Some k) least = (
      least.0,
      least.1,
      least.2,
      (λ other there also.
          elim (Contains-push_cases seen region other there) [
            | inl before ↦ least.3 other before also
            | inr is ↦ absurd (none (subst P (sym is) also))
          ]),
    )
    IsSmallestAmong_skip none None nothing =
        λ other there also.
        elim (Contains-push_cases seen region other there) [
          | inl before ↦ nothing other before also
          | inr is ↦ none (subst P (sym is) also)
        ]

    abbrev itself : (other : RegionParts) → region ≡ other → HasBlocksOf other region
    itself other is = subst (λ (one : RegionParts). HasBlocksOf one region) is (λ k marked. marked)

    module _ (n : ℕ) (at : slice_get regions n ≡ Some region) (also : P region) where
      own : IsRegionOf f region
      own = All-contains (IsRegionOf f) regions region each (contains_at regions n region at)

      -- one more, whose header the smallest one has
      pub IsSmallestAmong_more : (inside : Bool) (found : Option ℕ)
          → ((k : ℕ) (least : RegionParts) → found ≡ Some k → slice_get regions k ≡ Some least
          → inside ≡ get_or least.blocks region.header.0 false)
          → inside ≡ true → IsSmallestAmong regions seen P found
          → IsSmallestAmong regions (seen ++ region ∷ []) P (Some n)
      IsSmallestAmong_more inside None says is_in nothing = (
        region,
        at,
        also,
        (λ other there too.
            elim (Contains-push_cases seen region other there) [
              | inl before ↦ absurd (nothing other before too)
              | inr is ↦ itself other is
            ]),
      )
      IsSmallestAmong_more inside (Some k) says is_in least =
          let old = All-contains (IsRegionOf f) regions least.0 each (contains_at regions k least.0 least.1) in
          let within : HasBlocksOf least.0 region = header_marked f region least.0 own old
          (sym (says k least.0 refl least.1) ∙ is_in) in (
            region,
            at,
            also,
            (λ other there too.
                elim (Contains-push_cases seen region other there) [
                  | inl before ↦ λ block marked. least.3 other before too block (within block marked)
                  | inr is ↦ itself other is
                ]),
          )

      -- one more, whose header the smallest one hasn't
      pub IsSmallestAmong_kept : (inside : Bool) (found : Option ℕ) → (found ≡ None → IsTrue inside)
          → ((k : ℕ) (least : RegionParts) → found ≡ Some k → slice_get regions k ≡ Some least
          → inside ≡ get_or least.blocks region.header.0 false)
          → inside ≡ false → IsSmallestAmong regions seen P found
          → IsSmallestAmong regions (seen ++ region ∷ []) P found
      IsSmallestAmong_kept inside None empty says is_out nothing = absurd (both_ways inside is_out (empty refl))
      IsSmallestAmong_kept inside (Some k) empty says is_out least =
          let old = All-contains (IsRegionOf f) regions least.0 each (contains_at regions k least.0 least.1) in
          let around : HasBlocksOf region least.0 =
          elim (marks_meet f least.0 region old own b (holds least.0 least.2) (holds region also)) [
            | inl there ↦ absurd (both_ways inside is_out (says k least.0 refl least.1 ∙ there))
            | inr there ↦ header_marked f least.0 region old own there
          ] in (
            least.0,
            least.1,
            least.2,
            (λ other there too.
                elim (Contains-push_cases seen region other there) [
                  | inl before ↦ least.3 other before too
                  | inr is ↦ subst (λ (one : RegionParts). HasBlocksOf one least.0) is around
                ]),
          )

-- ---- for the same loops

-- the smallest one of which something else holds, of the same loops
pub IsSmallest_same : (regions : List RegionParts) (P Q : RegionParts → Type 0) (found : Option ℕ)
    → ((region : RegionParts) → Contains regions region → P region → Q region)
    → ((region : RegionParts) → Contains regions region → Q region → P region) → IsSmallest regions P found
    → IsSmallest regions Q found
IsSmallest_same regions P Q (Some k) there back least = (
  least.0,
  least.1,
  there least.0 (contains_at regions k least.0 least.1) least.2,
  (λ other among holds. least.3 other among (back other among holds)),
)
IsSmallest_same regions P Q None there back nothing =
    λ region among holds. nothing region among (back region among holds)
