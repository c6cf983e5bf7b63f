-- What the walks inside a loop pass, by blocks that dominate others.
use Rattle.std.proofs.Common.{◌≡◌, ◌≢◌, ◌↔◌, ◌⊎◌, ℕ, List, [], ◌∷◌, ◌++◌, Contains, sym, ◌∙◌, subst, inl, inr, arith}
use Rattle.std.proofs.lemmas.Bool.{cases_eq}
use Rattle.std.proofs.lemmas.List.Elements.{All-nil, All-push, Contains-append_left, Contains-push, Contains-push_cases}
use Rattle.ir_model.specs.declared.function.Function.{Function}
use Rattle.ir_model.specs.Shapes.{entry}
use Rattle.ir_model.specs.Walks.{Edge, Reachable, Trail}
use Rattle.ir_model.specs.Walks.Trail.{begins, enters}
use Rattle.flow_graph.proofs.WalkPaths.{walk_join}
use Rattle.ssa_check.specs.Checked.{Dominates}
use Rattle.loop_regions.specs.Loops.{Loop, IsLoop}
use Rattle.natural_loops.specs.Sides.{IsLatch, WalkInside}
use Rattle.ssa_check.proofs.Elements.{contains_none, contains_later, contains_cases}
use Rattle.ssa_check.proofs.Trails.{newest, reaches, trail_to, arrives}
use Rattle.ssa_check.proofs.Dominance.{dominates_itself, dominates_one_way}
use Rattle.natural_loops.proofs.Trailing.{last_step, trail_along, dominator_before, dominates_back}
use Rattle.natural_loops.proofs.Trailing.{block_before, entry_outside}
use Rattle.natural_loops.proofs.Bodies.{header_dominates}

-- a trail backwards, until it comes to one of two blocks that dominate its end
chain_on : (f : Function) (a b : ℕ) {xs : List ℕ} → Trail f xs → Dominates f a (newest xs) → Dominates f b (newest xs)
    → Dominates f a b ⊎ Dominates f b a
chain_on f a b begins first second =
    elim (contains_cases (entry f.blocks) [] a (first [] begins)) [
      | inl e ↦ inr (subst (λ (k : ℕ). Dominates f b k) e second)
      | inr none ↦ absurd (contains_none a none)
    ]
chain_on f a b (enters {b = from} {to} {trail} before edge) first second =
    elim (cases_eq to a) [
      | inl e ↦ inr (subst (λ (k : ℕ). Dominates f b k) e second)
      | inr apart ↦
          elim (cases_eq to b) [
            | inl e ↦ inl (subst (λ (k : ℕ). Dominates f a k) e first)
            | inr other ↦
                chain_on f a b before (dominates_back f a from to edge apart first)
                (dominates_back f b from to edge other second)
          ]
    ]

-- of two blocks that dominate one that is reachable, one dominates the other
pub dominators_chain : (f : Function) (a b c : ℕ) → Reachable f c → Dominates f a c → Dominates f b c
    → Dominates f a b ⊎ Dominates f b a
dominators_chain f a b c reachable first second =
    let trail = trail_to f c reachable in
    chain_on f a b trail.1 first second

module _ (f : Function) (never : (a : ℕ) → Edge f a (entry f.blocks) → ⊥) (l : Loop) (is_loop : IsLoop f l) where
  -- a trail to a block of the loop, other than the header, ends with a walk inside from the header
  way_inside : {xs : List ℕ} → Trail f xs → Contains l.blocks (newest xs) → newest xs ≢ l.header
      → (way : WalkInside f l (newest xs)) × ((d : ℕ) → Contains (l.header ∷ way.between) d → Contains xs d)
  way_inside begins held other = absurd (entry_outside f never l is_loop.region held)
  way_inside (enters {b = from} {to} {trail} before edge) held other =
      let within : Contains l.blocks from =
      block_before f l is_loop.region from to (reaches f from trail before) edge held other in
      elim (cases_eq from l.header) [
        | inl e ↦ (
          record {
            between = [];
            inside = All-nil (Contains l.blocks);
            walk = subst (λ (k : ℕ). Edge f k to) e edge;
          },
          (λ d there.
              elim (contains_cases l.header [] d there) [
                | inl same ↦ contains_later to (from ∷ trail) d (0, omega arith, e ∙ same)
                | inr none ↦ absurd (contains_none d none)
              ]),
        )
        | inr apart ↦
            let start = way_inside before within apart in
            let between = start.0.between in (
              record {
                between = between ++ from ∷ [];
                inside = All-push (Contains l.blocks) between from start.0.inside within;
                walk = walk_join f l.header from to between [] start.0.walk edge;
              },
              (λ d there.
                  elim (Contains-push_cases (l.header ∷ between) from d there) [
                    | inl old ↦ contains_later to (from ∷ trail) d (start.1 d old)
                    | inr e ↦ contains_later to (from ∷ trail) d (0, omega arith, e)
                  ]),
            )
      ]

  -- a walk inside the loop from its header passes those of its blocks that dominate the end, or ends there
  passes_dominating : (x b : ℕ) → Contains l.blocks x → Dominates f x b → (way : WalkInside f l b)
      → Contains (l.header ∷ way.between) x ⊎ (x ≡ b)
  passes_dominating x b held dominates way =
      let region = is_loop.region in
      let arrival = arrives f l.header (region.reachable l.header region.header) in
      let whole = trail_along f l.header b way.between arrival.0 arrival.1 way.walk in
      elim (whole.2 x (dominates whole.0 whole.1)) [
        | inl early ↦
            elim (contains_cases l.header arrival.0 x early) [
              | inl e ↦ inl (0, omega arith, e)
              | inr before ↦
                  let header = header_dominates f never l region x held in
                  absurd (arrival.2 (dominator_before f l.header x header arrival.1 before))
            ]
        | inr late ↦
            elim (Contains-push_cases way.between b x late) [
              | inl there ↦ inl (contains_later l.header way.between x there)
              | inr e ↦ inr (sym e)
            ]
      ]

  -- every walk inside the loop from its header to another block of it passes those of its blocks that dominate that
  -- block, and no others
  pub walks_pass : (x b : ℕ) → Contains l.blocks x → Contains l.blocks b → b ≢ l.header
      → ((way : WalkInside f l b) → Contains (l.header ∷ way.between) x ⊎ (x ≡ b)) ↔ Dominates f x b
  walks_pass x b held also later = (
    (λ passes before trail.
        let way = way_inside trail also later in
        elim (passes way.0) [ inl there ↦ way.1 x there | inr e ↦ (0, omega arith, sym e) ]),
    (λ dominates way. passes_dominating x b held dominates way),
  )

  -- a block of the loop that dominates its header is the header
  header_alone : (x : ℕ) → Contains l.blocks x → Dominates f x l.header → x ≡ l.header
  header_alone x held dominates =
      let region = is_loop.region in
      elim (cases_eq x l.header) [
        | inl e ↦ e
        | inr apart ↦
            let reachable = region.reachable l.header region.header in
            let back = header_dominates f never l region x held in
            absurd (dominates_one_way f x l.header apart reachable dominates back)
      ]

  -- what each turn passes dominates each latch
  passed_dominates : (x : ℕ) → Contains l.blocks x
      → ((turn : WalkInside f l l.header) → Contains (l.header ∷ turn.between) x) → (b : ℕ) → IsLatch f l b
      → Dominates f x b
  passed_dominates x held passes b latch =
      elim (cases_eq b l.header) [
        | inl e ↦
            let turn : WalkInside f l l.header =
            record {
              between = [];
              inside = All-nil (Contains l.blocks);
              walk = subst (λ (k : ℕ). Edge f k l.header) e latch.2;
            } in
            elim (contains_cases l.header [] x (passes turn)) [
              | inl same ↦ subst (λ (k : ℕ). Dominates f k b) (e ∙ same) (dominates_itself f b)
              | inr none ↦ absurd (contains_none x none)
            ]
        | inr apart ↦
            let passed : (way : WalkInside f l b) → Contains (l.header ∷ way.between) x ⊎ (x ≡ b) =
            λ way.
            let turn : WalkInside f l l.header =
            record {
              between = way.between ++ b ∷ [];
              inside = All-push (Contains l.blocks) way.between b way.inside latch.1;
              walk = walk_join f l.header b l.header way.between [] way.walk latch.2;
            } in
            elim (Contains-push_cases (l.header ∷ way.between) b x (passes turn)) [
              | inl there ↦ inl there
              | inr e ↦ inr (sym e)
            ] in
            (walks_pass x b held latch.1 apart).0 passed
      ]

  -- what dominates each latch is passed on each turn
  dominating_passed : (x : ℕ) → Contains l.blocks x → ((b : ℕ) → IsLatch f l b → Dominates f x b)
      → (turn : WalkInside f l l.header) → Contains (l.header ∷ turn.between) x
  dominating_passed x held dominates turn =
      let region = is_loop.region in
      elim (last_step f (Contains l.blocks) l.header l.header turn.between turn.inside turn.walk) [
        | inl one ↦
            let latch : IsLatch f l l.header = (region.reachable l.header region.header, region.header, one.1) in
            (0, omega arith, sym (header_alone x held (dominates l.header latch)))
        | inr more ↦
            let b = more.0 in
            let front = more.1.0 in
            let latch : IsLatch f l b = (region.reachable b more.2, more.2, more.3) in
            let way : WalkInside f l b = record { between = front; inside = more.1.1; walk = more.1.2 } in
            let there : Contains (l.header ∷ (front ++ b ∷ [])) x =
            elim (passes_dominating x b held (dominates b latch) way) [
              | inl passed ↦ Contains-append_left (l.header ∷ front) (b ∷ []) x passed
              | inr e ↦
                  contains_later l.header (front ++ b ∷ []) x
                  (subst (λ (k : ℕ). Contains (front ++ b ∷ []) k) (sym e) (Contains-push front b))
            ] in
            subst (λ (xs : List ℕ). Contains (l.header ∷ xs) x) (sym more.4) there
      ]

  -- each turn passes the blocks that dominate all latches, and no others of the loop
  pub turn_passes : (x : ℕ) → Contains l.blocks x
      → ((turn : WalkInside f l l.header) → Contains (l.header ∷ turn.between) x)
      ↔ ((b : ℕ) → IsLatch f l b → Dominates f x b)
  turn_passes x held = (
    (λ passes b latch. passed_dominates x held passes b latch),
    (λ dominates turn. dominating_passed x held dominates turn),
  )
