-- Walks inside a set of blocks, made wider or shorter; trails that are continued by walks; how regions are entered.
use Rattle.std.proofs.Common.{◌≡◌, ◌≢◌, ℕ, ◌⊎◌, List, [], ◌∷◌, ◌++◌, All, Contains, refl, sym, ap, subst, inl}
use Rattle.std.proofs.Common.{inr, arith}
use Rattle.std.proofs.lemmas.List.Elements.{All-nil, All-cons, All-head, All-tail, All-weaker}
use Rattle.ir_model.specs.declared.function.Function.{Function}
use Rattle.ir_model.specs.Shapes.{entry}
use Rattle.ir_model.specs.Walks.{Edge, Walk, Reachable, Trail}
use Rattle.ir_model.specs.Walks.Trail.{begins, enters}
use Rattle.ssa_check.specs.Checked.{Dominates}
use Rattle.loop_regions.specs.Loops.{Loop, IsRegion}
use Rattle.ssa_check.proofs.Elements.{contains_none, contains_later, contains_cases, cases_contains}
use Rattle.ssa_check.proofs.Dominance.{older}
use Rattle.natural_loops.proofs.Walking.{Inside, last_edge}

module _ (f : Function) where
  -- ---- walks inside

  -- what is inside a smaller set is inside a larger one
  pub inside_weaker : (P Q : ℕ → Type 0) → ((b : ℕ) → P b → Q b) → (a b : ℕ) → Inside f P a b → Inside f Q a b
  inside_weaker P Q wider a b way = (way.0, All-weaker P Q wider way.0 way.1, way.2)

  -- a walk inside is one edge, or a walk inside and an edge behind it
  pub last_step : (P : ℕ → Type 0) (a c : ℕ) (between : List ℕ) → All P between → Walk f a between c
      → ((between ≡ []) × Edge f a c)
      ⊎ ((b : ℕ) × (way : Inside f P a b) × P b × Edge f b c × (between ≡ way.0 ++ b ∷ []))
  last_step P a c [] inside edge = inl (refl, edge)
  last_step P a c (d ∷ between) inside walk =
      let head : P d = All-head P d between inside in
      let tail : All P between = All-tail P d between inside in
      elim (last_step P d c between tail walk.1) [
        | inl one ↦ inr (d, ([], All-nil P, walk.0), head, one.1, ap (λ (xs : List ℕ). d ∷ xs) one.0)
        | inr more ↦
            inr (
              more.0,
              (d ∷ more.1.0, All-cons P d more.1.0 head more.1.1, (walk.0, more.1.2)),
              more.2,
              more.3,
              ap (λ (xs : List ℕ). d ∷ xs) more.4,
            )
      ]

  -- ---- trails

  -- a trail goes on along a walk, and has then entered no blocks but those of both
  pub trail_along : (a b : ℕ) (between before : List ℕ) → Trail f (a ∷ before) → Walk f a between b
      → (later : List ℕ) × Trail f (b ∷ later)
      × ((d : ℕ) → Contains (b ∷ later) d → Contains (a ∷ before) d ⊎ Contains (between ++ b ∷ []) d)
  trail_along a b [] before trail edge = (
    a ∷ before,
    enters trail edge,
    (λ d there.
        elim (contains_cases b (a ∷ before) d there) [
          | inl e ↦ inr (0, omega arith, e)
          | inr earlier ↦ inl earlier
        ]),
  )
  trail_along a b (c ∷ between) before trail walk =
      let rest = trail_along c b between (a ∷ before) (enters trail walk.0) walk.1 in (
        rest.0,
        rest.1,
        (λ d there.
            elim (rest.2 d there) [
              | inl early ↦
                  elim (contains_cases c (a ∷ before) d early) [
                    | inl e ↦ inr (0, omega arith, e)
                    | inr earlier ↦ inl earlier
                  ]
              | inr late ↦ inr (contains_later c (between ++ b ∷ []) d late)
            ]),
      )

  -- a trail that has entered a block has entered what dominates it
  pub dominator_entered : (h d : ℕ) → Dominates f h d → {xs : List ℕ} → Trail f xs → Contains xs d → Contains xs h
  dominator_entered h d dominates begins there =
      elim (contains_cases (entry f.blocks) [] d there) [
        | inl e ↦ subst (λ (k : ℕ). Dominates f h k) (sym e) dominates [] begins
        | inr none ↦ absurd (contains_none d none)
      ]
  dominator_entered h d dominates (enters {b} {to} {trail} before edge) there =
      elim (contains_cases to (b ∷ trail) d there) [
        | inl e ↦ subst (λ (k : ℕ). Dominates f h k) (sym e) dominates (b ∷ trail) (enters before edge)
        | inr earlier ↦ contains_later to (b ∷ trail) h (dominator_entered h d dominates before earlier)
      ]

  -- and so has one that entered it before its last block
  pub dominator_before : (h d : ℕ) → Dominates f h d → {xs : List ℕ} → Trail f xs → Contains (older xs) d
      → Contains (older xs) h
  dominator_before h d dominates begins there = absurd (contains_none d there)
  dominator_before h d dominates (enters before edge) there = dominator_entered h d dominates before there

  -- what dominates a block dominates each one from which an edge leads there, or is the block
  pub dominates_back : (d b to : ℕ) → Edge f b to → to ≢ d → Dominates f d to → Dominates f d b
  dominates_back d b to edge apart dominates before trail =
      elim (contains_cases to (b ∷ before) d (dominates (b ∷ before) (enters trail edge))) [
        | inl e ↦ absurd (apart e)
        | inr there ↦ there
      ]

  -- ---- regions

  -- a reachable block from which an edge leads to a block of a region, other than the header, is one of the region
  pub block_before : (l : Loop) → IsRegion f l → (a b : ℕ) → Reachable f a → Edge f a b → Contains l.blocks b
      → b ≢ l.header → Contains l.blocks a
  block_before l region a b reachable edge held apart =
      elim (cases_contains l.blocks a) [
        | inl there ↦ there
        | inr none ↦ absurd (apart (region.entered a b reachable none held edge))
      ]

  -- no region has the first block, if nothing leads to that
  pub entry_outside : ((a : ℕ) → Edge f a (entry f.blocks) → ⊥) → (l : Loop) → IsRegion f l
      → Contains l.blocks (entry f.blocks) → ⊥
  entry_outside never l region held =
      let way = region.connected (entry f.blocks) (entry f.blocks) held held in
      let last = last_edge f (Contains l.blocks) (entry f.blocks) (entry f.blocks) way.0 held way.1 way.2 in
      never last.0 last.2
