-- Blocks that are found from latches, against the edges, up to a header.
use Rattle.std.proofs.Common.{◌≡◌, ◌≢◌, ℕ, zero, suc, ◌<◌, ◌⊎◌, Bool, true, false, List, [], ◌∷◌, ◌++◌, length, set}
use Rattle.std.proofs.Common.{replicate, All, Contains, refl, sym, ◌∙◌, subst, inl, inr, arith, length-set}
use Rattle.std.proofs.lemmas.List.{get_or_default, length-replicate}
use Rattle.std.proofs.lemmas.List.Elements.{All-nil, All-cons, All-push, All-contains, All-weaker}
use Rattle.scev_base.specs.declared.ids.BlockId.{BlockId}
use Rattle.ir_model.specs.declared.function.Function.{Function}
use Rattle.ir_model.specs.Walks.{Edge, Walk, Reachable}
use Rattle.ir_model.specs.Walks.Trail.{enters}
use Rattle.flow_graph.specs.Graph.{Path, IsMarked, ArcToUnmarked, AreAllFound}
use Rattle.flow_graph.proofs.PathLemmas.{path_holds}
use Rattle.flow_graph.proofs.SearchLemmas.{set_marked, set_cases, no_mark}
use Rattle.ssa_check.specs.Checked.{Dominates}
use Rattle.natural_loops.specs.Backward.{IsBackEdge, IsBackward, IsBody}
use Rattle.natural_loops.specs.Sides.{AreInTextOrder}

first_or_later : (x : ℕ) (xs : List ℕ) (y : ℕ) → Contains (x ∷ xs) y → (x ≡ y) ⊎ Contains xs y
first_or_later x xs y (zero, within, is) = inl is
first_or_later x xs y (suc k, within, is) = inr (k, omega arith, is)

-- what dominates another block dominates those with an edge there
dominates_source : (f : Function) (h a b : ℕ) → Dominates f h b → b ≢ h → Edge f a b → Dominates f h a
dominates_source f h a b dominates apart edge before trail =
    elim (first_or_later b (a ∷ before) h (dominates (a ∷ before) (enters trail edge))) [
      | inl e ↦ absurd (apart e)
      | inr there ↦ there
    ]

module _ (f : Function) (h : ℕ) (graph : List (List ℕ)) where
  -- a walk from a block to the header, along marked blocks
  abbrev pub Led : List Bool → ℕ → Type 0
  Led marks b = (between : List ℕ) × All (IsMarked marks) between × Walk f b between h

  -- The marks are of the header, and of what is found from some latches.
  pub record AreFoundBehind (latches : List BlockId) (marks : List Bool) : Type 0 where
    pub size : length marks ≡ length graph
    pub header : IsMarked marks h
    pub reachable : (b : ℕ) → IsMarked marks b → Reachable f b
    pub dominated : (b : ℕ) → IsMarked marks b → Dominates f h b
    pub led : (b : ℕ) → IsMarked marks b → b ≢ h → Led marks b
    pub closed : (a b : ℕ) → IsMarked marks b → b ≢ h → Reachable f a → Edge f a b → IsMarked marks a
    pub all : All (λ (latch : BlockId). IsMarked marks latch.0) latches

  pub AreFoundBehind_none : Reachable f h → h < length graph
      → AreFoundBehind [] (set (replicate (length graph) false) h true)
  AreFoundBehind_none reachable within =
      let n = length graph in
      let marks = set (replicate n false) h true in
      let only : (b : ℕ) → IsMarked marks b → h ≡ b = λ b marked.
      elim (set_cases (replicate n false) h b marked) [ inl before ↦ absurd (no_mark n b before) | inr e ↦ e ] in
      record {
        size = length-set (replicate n false) h true ∙ length-replicate n false;
        header = set_marked (replicate n false) h (omega (arith, within, length-replicate n false));
        reachable = λ b marked. subst (Reachable f) (only b marked) reachable;
        dominated = λ b marked.
            subst (Dominates f h) (only b marked) (λ before trail. (0, omega arith, refl));
        led = λ b marked apart. absurd (apart (sym (only b marked)));
        closed = λ a b marked apart leads edge. absurd (apart (sym (only b marked)));
        all = All-nil (λ (latch : BlockId). IsMarked marks latch.0);
      }

  -- a latch that was found before
  pub AreFoundBehind_skip : (latches : List BlockId) (marks : List Bool) (latch : BlockId) → IsMarked marks latch.0
      → AreFoundBehind latches marks → AreFoundBehind (latches ++ latch ∷ []) marks
  AreFoundBehind_skip latches marks latch marked are = record {
    size = are.size;
    header = are.header;
    reachable = are.reachable;
    dominated = are.dominated;
    led = are.led;
    closed = are.closed;
    all = All-push (λ (one : BlockId). IsMarked marks one.0) latches latch are.all marked;
  }

  module _ (is : IsBackward f graph) (latches : List BlockId) (old new : List Bool) (latch : BlockId)
      (found : List ℕ) (back : IsBackEdge f latch.0 h) (search : AreAllFound graph latch.0 old new found)
      (are : AreFoundBehind latches old) where
    fresh : (k : ℕ) → Contains found k
        → Path (ArcToUnmarked graph old) latch.0 k × (IsMarked old k → ⊥) × IsMarked new k
    fresh k there =
        All-contains (λ k. Path (ArcToUnmarked graph old) latch.0 k × (IsMarked old k → ⊥) × IsMarked new k) found k
        search.part.each there

    apart : (k : ℕ) → Contains found k → k ≢ h
    apart k there e = (fresh k there).1 (subst (IsMarked old) (sym e) are.header)

    latch_there : Contains found latch.0
    latch_there = (
      0,
      search.part.first.0,
      get_or_default found 0 latch.0 0 search.part.first.0 ∙ search.part.first.1,
    )

    -- what is known of each block that is found
    record IsFoundHere (k : ℕ) : Type 0 where
      there : Contains found k
      reachable : Reachable f k
      dominated : Dominates f h k
      led : Led new k

    goes : (a b : ℕ) → IsFoundHere a → ArcToUnmarked graph old a b → IsFoundHere b
    goes a b here step =
        let edge = (is.arcs b a).0 step.0 in
        record {
          there =
              elim (search.part.marked b (search.all a b here.there step.0)) [
                | inl before ↦ absurd (step.1 before)
                | inr there ↦ there
              ];
          reachable = edge.0;
          dominated = dominates_source f h b a here.dominated (apart a here.there) edge.1;
          led = (
            a ∷ here.led.0,
            All-cons (IsMarked new) a here.led.0 (fresh a here.there).2 here.led.1,
            (edge.1, here.led.2),
          );
        }

    known : (k : ℕ) → Contains found k → IsFoundHere k
    known k there =
        path_holds IsFoundHere goes (fresh k there).0
        (record {
          there = latch_there;
          reachable = back.reachable;
          dominated = back.dominated;
          led = ([], All-nil (IsMarked new), back.edge);
        })

    -- a latch from which a search went
    pub AreFoundBehind_more : AreFoundBehind (latches ++ latch ∷ []) new
    AreFoundBehind_more = record {
      size = search.part.size ∙ are.size;
      header = search.part.kept h are.header;
      reachable = λ b marked.
          elim (search.part.marked b marked) [
            | inl before ↦ are.reachable b before
            | inr there ↦ (known b there).reachable
          ];
      dominated = λ b marked.
          elim (search.part.marked b marked) [
            | inl before ↦ are.dominated b before
            | inr there ↦ (known b there).dominated
          ];
      led = λ b marked other.
          elim (search.part.marked b marked) [
            | inl before ↦
                let way = are.led b before other in
                (way.0, All-weaker (IsMarked old) (IsMarked new) search.part.kept way.0 way.1, way.2)
            | inr there ↦ (known b there).led
          ];
      closed = λ a b marked other leads edge.
          elim (search.part.marked b marked) [
            | inl before ↦ search.part.kept a (are.closed a b before other leads edge)
            | inr there ↦ search.all b a there ((is.arcs a b).1 (leads, edge))
          ];
      all = All-push (λ (one : BlockId). IsMarked new one.0) latches latch
          (All-weaker (λ (one : BlockId). IsMarked old one.0) (λ (one : BlockId). IsMarked new one.0)
          (λ one marked. search.part.kept one.0 marked) latches are.all) (fresh latch.0 latch_there).2;
    }

  -- all latches
  pub AreFoundBehind_all : (latches : List BlockId) (marks : List Bool)
      → AreInTextOrder f (λ b. IsBackEdge f b h) latches → AreFoundBehind latches marks → IsBody f h marks
  AreFoundBehind_all latches marks listed are = record {
    header = are.header;
    reachable = are.reachable;
    dominated = are.dominated;
    led = are.led;
    closed = are.closed;
    latches = λ b back.
        let id : BlockId = record { 0 = b } in
        All-contains (λ (one : BlockId). IsMarked marks one.0) latches id are.all ((listed.each id).1 back);
  }
