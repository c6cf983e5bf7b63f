-- The edges of a function, each the other way round.
use Rattle.std.proofs.Common.{◌↔◌, ℕ, ◌+◌, ◌<◌, List, [], ◌∷◌, ◌++◌, length, All, Contains, sym, ◌∙◌, subst}
use Rattle.std.proofs.Common.{inl, inr, arith}
use Rattle.std.proofs.lemmas.Bool.{cases_eq}
use Rattle.std.proofs.lemmas.List.Elements.{Contains-get_or, Contains-append_left, Contains-push, Contains-push_cases}
use Rattle.ir_model.specs.declared.function.Function.{Function}
use Rattle.ir_model.specs.Walks.{Reachable}
use Rattle.ir_model.specs.WellMade.{HasIds}
use Rattle.flow_graph.specs.Graph.{IsGraphOf, IsReversed}
use Rattle.natural_loops.specs.Backward.{IsBackward}
use Rattle.natural_loops.proofs.LatchMarks.{edge_labelled}

module _ (f : Function) where
  -- these are the reachable blocks below a number
  abbrev pub AreReachableBelow : ℕ → List ℕ → Type 0
  AreReachableBelow n nodes = (b : ℕ) → Contains nodes b ↔ ((b < n) × Reachable f b)

  pub AreReachableBelow_none : AreReachableBelow 0 []
  AreReachableBelow_none b = ((λ there. absurd (omega (arith, there.1))), (λ h. absurd (omega (arith, h.0))))

  -- the next number is no reachable block's
  pub AreReachableBelow_skip : (n : ℕ) (nodes : List ℕ) → (Reachable f n → ⊥) → AreReachableBelow n nodes
      → AreReachableBelow (n + 1) nodes
  AreReachableBelow_skip n nodes none are b = (
    (λ there. let known = (are b).0 there in (omega (arith, known.0), known.1)),
    (λ h.
        elim (cases_eq b n) [
          | inl e ↦ absurd (none (subst (Reachable f) e h.1))
          | inr apart ↦ (are b).1 (omega (arith, h.0, apart), h.1)
        ]),
  )

  -- the next number is that of one
  pub AreReachableBelow_more : (n : ℕ) (nodes : List ℕ) → Reachable f n → AreReachableBelow n nodes
      → AreReachableBelow (n + 1) (nodes ++ n ∷ [])
  AreReachableBelow_more n nodes reachable are b = (
    (λ there.
        elim (Contains-push_cases nodes n b there) [
          | inl before ↦ let known = (are b).0 before in (omega (arith, known.0), known.1)
          | inr is ↦ (omega (arith, is), subst (Reachable f) is reachable)
        ]),
    (λ h.
        elim (cases_eq b n) [
          | inl e ↦ subst (Contains (nodes ++ n ∷ [])) (sym e) (Contains-push nodes n)
          | inr apart ↦ Contains-append_left nodes (n ∷ []) b ((are b).1 (omega (arith, h.0, apart), h.1))
        ]),
  )

  module _ (graph : List (List ℕ)) (nodes : List ℕ) (is : IsGraphOf f graph)
      (are : AreReachableBelow (length f.labels) nodes) where
    -- the reachable blocks are nodes of the graph
    pub reachable_nodes : All (λ k. k < length graph) nodes
    reachable_nodes k d within = omega (arith, ((are _).0 (Contains-get_or nodes k d within)).0, is.size)

    -- their arcs, each the other way round
    pub backward_arcs : HasIds f → (reversed : List (List ℕ)) → IsReversed graph nodes reversed → IsBackward f reversed
    backward_arcs ids reversed turned = record {
      size = turned.size ∙ is.size;
      closed = λ b a arc.
          let known = (are a).0 ((turned.arcs a b).0 arc).0 in
          omega (arith, known.0, turned.size, is.size);
      arcs = λ a b. (
        (λ arc.
            let there = (turned.arcs a b).0 arc in
            (((are a).0 there.0).1, (is.arcs a b).0 there.1)),
        (λ h.
            let within = edge_labelled f ids a b h.1 in
            (turned.arcs a b).1 ((are a).1 (within, h.0), (is.arcs a b).1 h.1)),
      );
    }
