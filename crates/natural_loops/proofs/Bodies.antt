-- The blocks that are found from latches against the edges are a loop, and each loop is found so.
use Rattle.std.proofs.Common.{◌≡◌, ◌≢◌, ◌↔◌, ◌==◌, ℕ, Bool, true, not, ◌||◌, List, [], ◌∷◌, map}
use Rattle.std.proofs.Common.{flat_map, All, Contains, refl, sym, ap, ◌∙◌, subst}
use Rattle.std.proofs.Common.{inl, inr, arith}
use Rattle.std.specs.List.{list_any}
use Rattle.std.proofs.lemmas.Bool.{both_ways, cases_eq, eq-eqb, not-true}
use Rattle.std.proofs.lemmas.List.Elements.{All-head, All-tail, All-weaker}
use Rattle.std.proofs.lemmas.List.Folds.{list_any-append, list_any_at}
use Rattle.ir_model.specs.declared.function.Instr.{Instr}
use Rattle.ir_model.specs.declared.function.Block.{Block}
use Rattle.ir_model.specs.declared.function.Function.{Function}
use Rattle.ir_model.specs.declared.signature.Signatures.{Signatures}
use Rattle.ir_model.specs.declared.rule.Rule.TheVariants.{EntryHasPredecessor}
use Rattle.ir_model.specs.declared.rule.Place.TheVariants.{BlockAt}
use Rattle.ir_model.specs.Shapes.{entry, targets}
use Rattle.ir_model.specs.Walks.{successors, Edge, Walk, Trail}
use Rattle.ir_model.specs.Walks.Trail.{begins, enters}
use Rattle.ir_rules.specs.Accepted.{IsAccepted}
use Rattle.ir_rules.specs.Blocks.{is_target}
use Rattle.ir_rules.specs.Rules.{broken, shape_rules}
use Rattle.ir_rules.specs.Spots.{Spot, block_spots}
use Rattle.flow_graph.specs.Graph.{IsMarked}
use Rattle.flow_graph.proofs.ArcLemmas.{find_is}
use Rattle.ssa_check.specs.Checked.{Dominates}
use Rattle.loop_regions.specs.Loops.{Loop, IsRegion, IsLoop}
use Rattle.natural_loops.specs.Sides.{IsLatch}
use Rattle.natural_loops.specs.Backward.{IsBackEdge, IsBody}
use Rattle.natural_loops.specs.Table.{marked_from}
use Rattle.natural_loops.proofs.Marks.{marked_contains}
use Rattle.ssa_check.proofs.Elements.{contains_none, contains_later, contains_cases, cases_contains}
use Rattle.ssa_check.proofs.Trails.{newest, reaches, trail_to}
use Rattle.ssa_check.proofs.Limited.{none_first, holds_of_unless}
use Rattle.natural_loops.proofs.Walking.{Inside, inside_edge, inside_join, last_edge}

-- ---- no edge leads to the first block

-- an element that passes
any_has : {X : Type 0} (p : X → Bool) (xs : List X) (x : X) → Contains xs x → p x ≡ true → list_any p xs ≡ true
any_has p xs x there passes = list_any_at p xs there.0 x there.1 (ap p there.2 ∙ passes)

any_map : {X Y : Type 0} (p : Y → Bool) (g : X → Y) (xs : List X) → list_any p (map g xs) ≡ list_any (λ x. p (g x)) xs
any_map p g [] = refl
any_map p g (x ∷ xs) = ap (λ (rest : Bool). p (g x) || rest) (any_map p g xs)

any_flat_map : {X Y : Type 0} (p : Y → Bool) (g : X → List Y) (xs : List X)
    → list_any p (flat_map g xs) ≡ list_any (λ x. list_any p (g x)) xs
any_flat_map p g [] = refl
any_flat_map p g (x ∷ xs) =
    list_any-append p (g x) (flat_map g xs) ∙ ap (λ (rest : Bool). list_any p (g x) || rest) (any_flat_map p g xs)

-- a block to which an edge leads is a target
target_of_edge : (f : Function) (a b : ℕ) → Edge f a b → is_target f b ≡ true
target_of_edge f a b edge =
    let block = edge.0 in
    let is_b : ℕ → Bool = λ to. to == b in
    let leads : Instr → Bool = λ instr. list_any is_b (targets instr.op) in
    let at_spot : Spot → Bool = λ spot. leads spot.instr in
    let spot_of : Instr → Spot = λ instr. record { block = block.id.0; instr = instr } in
    let there = find_is (λ (one : Block). one.id.0 == a) f.blocks block edge.1 in
    let named : list_any is_b (successors block.instrs) ≡ true = any_has is_b (successors block.instrs) b edge.2
    (eq-eqb b b refl) in
    let own : list_any at_spot (block_spots block) ≡ true = any_map at_spot spot_of block.instrs
    ∙ sym (any_flat_map is_b (λ (instr : Instr). targets instr.op) block.instrs) ∙ named in
    any_flat_map at_spot block_spots f.blocks
    ∙ any_has (λ (one : Block). list_any at_spot (block_spots one)) f.blocks block there.0 own

-- nothing leads to the first block of a function that is accepted
pub entry_is_no_target : (signatures : Signatures) (f : Function) → IsAccepted signatures f → (a : ℕ)
    → Edge f a (entry f.blocks) → ⊥
entry_is_no_target signatures f accepted a edge =
    let target = is_target f (entry f.blocks) in
    let none = none_first (broken signatures f) shape_rules 5 EntryHasPredecessor accepted.shape refl in
    let holds = holds_of_unless (not target) (BlockAt (record { 0 = entry f.blocks })) none in
    both_ways target (not-true target holds) (target_of_edge f a (entry f.blocks) edge)

module _ (f : Function) (first : (a : ℕ) → Edge f a (entry f.blocks) → ⊥) where
  -- ---- headers

  -- a trail to a block of a region has entered its header
  enters_header : (l : Loop) → IsRegion f l → {xs : List ℕ} → Trail f xs → Contains l.blocks (newest xs)
      → Contains xs l.header
  enters_header l region begins held =
      let turn = region.connected (entry f.blocks) (entry f.blocks) held held in
      let last =
      last_edge f (Contains l.blocks) (entry f.blocks) (entry f.blocks) turn.0 held turn.1 turn.2 in
      absurd (first last.0 last.2)
  enters_header l region (enters {b} {to} {trail} before edge) held =
      elim (cases_contains l.blocks b) [
        | inl inside ↦ contains_later to (b ∷ trail) l.header (enters_header l region before inside)
        | inr outside ↦ (0, omega arith, region.entered b to (reaches f b trail before) outside held edge)
      ]

  -- the header of a region dominates its blocks
  pub header_dominates : (l : Loop) → IsRegion f l → (b : ℕ) → Contains l.blocks b → Dominates f l.header b
  header_dominates l region b held before trail = enters_header l region trail held

  -- a loop has a latch
  pub loop_has_latch : (l : Loop) → IsLoop f l → (b : ℕ) × IsBackEdge f b l.header
  loop_has_latch l is_loop =
      let region = is_loop.region in
      let turn = region.connected l.header l.header region.header region.header in
      let last = last_edge f (Contains l.blocks) l.header l.header turn.0 region.header turn.1 turn.2 in (
        last.0,
        record {
          reachable = region.reachable last.0 last.1;
          edge = last.2;
          dominated = header_dominates l region last.0 last.1;
        },
      )

  module _ (h : ℕ) (marks : List Bool) (body : IsBody f h marks) where
    abbrev body_loop : Loop
    body_loop = record { header = h; blocks = marked_from 0 marks }

    held : (b : ℕ) → IsMarked marks b → Contains (marked_from 0 marks) b
    held b marked = (marked_contains marks b).1 marked

    marked : (b : ℕ) → Contains (marked_from 0 marks) b → IsMarked marks b
    marked b there = (marked_contains marks b).0 there

    -- ---- walks inside

    -- a trail to a marked block that has entered the header ends with a walk inside from there
    behind_header : {xs : List ℕ} → Trail f xs → IsMarked marks (newest xs) → Contains xs h → newest xs ≢ h
        → Inside f (IsMarked marks) h (newest xs)
    behind_header begins is there apart =
        elim (contains_cases (entry f.blocks) [] h there) [
          | inl e ↦ absurd (apart e)
          | inr never ↦ absurd (contains_none h never)
        ]
    behind_header (enters {b} {to} {trail} before edge) is there apart =
        let source = body.closed b to is apart (reaches f b trail before) edge in
        elim (cases_eq b h) [
          | inl e ↦ inside_edge f (IsMarked marks) h to (subst (λ (k : ℕ). Edge f k to) e edge)
          | inr other ↦
              elim (contains_cases to (b ∷ trail) h there) [
                | inl e ↦ absurd (apart e)
                | inr earlier ↦
                    inside_join f (IsMarked marks) h b to source (behind_header before source earlier other)
                    (inside_edge f (IsMarked marks) b to edge)
              ]
        ]

    from_header : (b : ℕ) → IsMarked marks b → b ≢ h → Inside f (IsMarked marks) h b
    from_header b is apart =
        let trail = trail_to f b (body.reachable b is) in
        behind_header trail.1 is (body.dominated b is trail.0 trail.1) apart

    module _ (back : ℕ) (edge : IsBackEdge f back h) where
      turn_inside : Inside f (IsMarked marks) h h
      turn_inside =
          let source = body.latches back edge in
          elim (cases_eq back h) [
            | inl e ↦ inside_edge f (IsMarked marks) h h (subst (λ (k : ℕ). Edge f k h) e edge.edge)
            | inr apart ↦
                inside_join f (IsMarked marks) h back h source (from_header back source apart)
                (inside_edge f (IsMarked marks) back h edge.edge)
          ]

      to_header : (a : ℕ) → IsMarked marks a → Inside f (IsMarked marks) a h
      to_header a is =
          elim (cases_eq a h) [
            | inl e ↦ subst (λ (k : ℕ). Inside f (IsMarked marks) k h) (sym e) turn_inside
            | inr apart ↦ body.led a is apart
          ]

      across : (a b : ℕ) → IsMarked marks a → IsMarked marks b → Inside f (IsMarked marks) a b
      across a b is also =
          elim (cases_eq b h) [
            | inl e ↦ subst (λ (k : ℕ). Inside f (IsMarked marks) a k) (sym e) (to_header a is)
            | inr apart ↦
                inside_join f (IsMarked marks) a h b body.header (to_header a is) (from_header b also apart)
          ]

    -- ---- a loop

    -- a block that a walk inside another region leads from to the header is marked
    marked_back : (other : Loop) → IsRegion f other → other.header ≡ h → (a : ℕ) (between : List ℕ)
        → Contains other.blocks a → All (Contains other.blocks) between → Walk f a between h → IsMarked marks a
    marked_back other region same a [] there inside edge =
        let dominated = subst (λ (k : ℕ). Dominates f k a) same (header_dominates other region a there) in
        body.latches a (record { reachable = region.reachable a there; edge = edge; dominated = dominated })
    marked_back other region same a (c ∷ between) there inside walk =
        let P : ℕ → Type 0 = Contains other.blocks in
        let next = marked_back other region same c between (All-head P c between inside)
        (All-tail P c between inside) walk.1 in
        elim (cases_eq c h) [
          | inl e ↦
              let dominated = subst (λ (k : ℕ). Dominates f k a) same (header_dominates other region a there) in
              body.latches a
              (record {
                reachable = region.reachable a there;
                edge = subst (λ (k : ℕ). Edge f a k) e walk.0;
                dominated = dominated;
              })
          | inr apart ↦ body.closed a c next apart (region.reachable a there) walk.0
        ]

    body_region : (back : ℕ) → IsBackEdge f back h → IsRegion f body_loop
    body_region back back_edge = record {
      header = held h body.header;
      reachable = λ b there. body.reachable b (marked b there);
      connected = λ a b there also.
          let walk = across back back_edge a b (marked a there) (marked b also) in
          (walk.0, All-weaker (IsMarked marks) (Contains (marked_from 0 marks)) held walk.0 walk.1, walk.2);
      entered = λ a b reachable outside there edge.
          elim (cases_eq b h) [
            | inl e ↦ e
            | inr apart ↦ absurd (outside (held a (body.closed a b (marked b there) apart reachable edge)))
          ];
    }

    -- what is found from latches is a loop, where there is a latch
    pub body_is_loop : (back : ℕ) → IsBackEdge f back h → IsLoop f body_loop
    body_is_loop back edge = record {
      region = body_region back edge;
      largest = λ other region same b there.
          let walk = region.connected b other.header there region.header in
          held b (marked_back other region same b walk.0 there walk.1
          (subst (λ (k : ℕ). Walk f b walk.0 k) same walk.2));
    }

    -- and its latches are those
    pub body_latches : (b : ℕ) → IsBackEdge f b h ↔ IsLatch f body_loop b
    body_latches b = (
      (λ back. (back.reachable, held b (body.latches b back), back.edge)),
      (λ latch. record {
        reachable = latch.0;
        edge = latch.2;
        dominated = body.dominated b (marked b latch.1);
      }),
    )
