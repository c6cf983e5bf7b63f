-- Groups, by the numbers of components.
use Rattle.std.proofs.Common.{◌≡◌, ◌==◌, ◌↔◌, ℕ, ◌<◌, Bool, true, false, List, length, get_or, map, refl, sym}
use Rattle.std.proofs.Common.{ap, ◌∙◌, inl, inr, arith}
use Rattle.std.proofs.lemmas.Bool.{and_from, and_parts, cases_lt, eq-eqb, eqb-true}
use Rattle.std.proofs.lemmas.List.{get_or-map, get_or_past, length-map}
use Rattle.flow_graph.specs.Graph.{Arc, Path}
use Rattle.flow_graph.proofs.PathLemmas.{path_map}
use Rattle.graph_components.specs.Components.{AreComponents}
use Rattle.value_exprs.specs.View.{View}
use Rattle.value_exprs.specs.Dependence.{DependsOn, AreMutual, IsTurn, IsGroup}
use Rattle.value_groups.specs.Groups.{AreGroupsOf, IsDependence}
use Rattle.value_groups.specs.Counts.{AreCounted, is_phi_of, phis_of}
use Rattle.value_groups.proofs.Counting.{phis_only, phis_has, phis_apart, phis_behind}

-- what stands in a list of tests and holds is within the list
turn_within : (turns : List Bool) (p : ℕ) → get_or turns p false ≡ true → p < length turns
turn_within turns p is =
    elim (cases_lt p (length turns)) [
      | inl low ↦ low
      | inr past ↦
          let out = get_or_past turns p false past in
          absurd (cc)
    ]

module _ (view : View) (graph : List (List ℕ)) (components places sizes : List ℕ) (count : ℕ → ℕ)
    (depends : IsDependence view graph) (are : AreComponents graph components)
    (turns : length view.turns ≡ length view.rows)
    (counted : AreCounted view.turns components places)
    (counts : (c : ℕ) → count c ≡ length (phis_of view.turns components c (length components)))
    (sized : sizes ≡ map count components) where
  abbrev of : ℕ → ℕ
  of v = get_or components v 0

  abbrev phis : ℕ → ℕ → List ℕ
  phis c n = phis_of view.turns components c n

  size : length components ≡ length view.rows
  size = are.size ∙ depends.size

  there : {v x : ℕ} → Path (Arc graph) v x → Path (DependsOn view) v x
  there path = path_map (λ a b. (depends.arcs a b).0) path

  back : {v x : ℕ} → Path (DependsOn view) v x → Path (Arc graph) v x
  back path = path_map (λ a b. (depends.arcs a b).1) path

  same : (v x : ℕ) → v < length view.rows → x < length view.rows → of v ≡ of x ↔ AreMutual view v x
  same v x low low' =
      let nodes = depends.size in
      let both = are.same v x (omega (arith, low, nodes)) (omega (arith, low', nodes)) in (
        (λ e.
            let paths = both.0 e in
            record { there = there paths.0; back = there paths.1 }),
        (λ paths. both.1 (back paths.there, back paths.back)),
      )

  is_own : (p : ℕ) → IsTurn view p → is_phi_of view.turns components (of p) p ≡ true
  is_own p turn = and_from (get_or view.turns p false) (of p == of p) turn (eq-eqb (of p) (of p) refl)

  group_is : (v : ℕ) → v < length view.rows → IsGroup view v (phis (of v) (length components))
  group_is v low = record {
    each = λ p. (
      (λ member.
          let h = phis_only view.turns components (of v) (length components) p member in
          let parts = and_parts (get_or view.turns p false) (of p == of v) h.1 in
          (parts.0, (same v p low (omega (arith, h.0, size))).0 (sym (eqb-true (of p) (of v) parts.1)))),
      (λ member.
          let within = turn_within view.turns p member.0 in
          let e = (same v p low (omega (arith, within, turns))).1 member.1 in
          phis_has view.turns components (of v) (length components) p (omega (arith, within, turns, size))
          (and_from (get_or view.turns p false) (of p == of v) member.0 (eq-eqb (of p) (of v) (sym e)))),
    );
    once = phis_apart view.turns components (of v) (length components);
  }

  size_is : (v : ℕ) → v < length view.rows → get_or sizes v 0 ≡ length (phis (of v) (length components))
  size_is v low =
      ap (λ (xs : List ℕ). get_or xs v 0) sized
      ∙ (get_or-map count components v 0 0 (omega (arith, low, size)) ∙ counts (of v))

  -- a phi behind another one of its group has a higher place
  higher : (p q : ℕ) → p < length view.rows → q < length view.rows → IsTurn view p → of p ≡ of q → p < q
      → get_or places p 0 < get_or places q 0
  higher p q low low' turn e less =
      let first = counted.each p (omega (arith, low, size)) in
      let second = counted.each q (omega (arith, low', size)) in
      let moved = ap (λ (c : ℕ). length (phis c q)) e in
      let more = phis_behind view.turns components (of p) p q (is_own p turn) less in
      omega (arith, first, second, moved, more)

  pub groups_are : AreGroupsOf view (record { components = components; places = places; sizes = sizes })
  groups_are = record {
    lengths = (
      size,
      counted.size ∙ size,
      ap (λ (xs : List ℕ). length xs) sized ∙ (length-map components count ∙ size),
    );
    same = same;
    falls = λ v x on. are.falls v x ((depends.arcs v x).1 on);
    sizes = λ v low. (phis (of v) (length components), group_is v low, size_is v low);
    places = λ p low turn.
        let within : p < length components = omega (arith, low, size) in
        let place = counted.each p within in
        let more = phis_behind view.turns components (of p) p (length components) (is_own p turn) within in
        omega (arith, place, more, size_is p low);
    apart = λ p q low low' turn turn' paths e.
        let numbered : of p ≡ of q = (same p q low low').1 paths in
        elim (cases_lt p q) [
          | inl less ↦
              let more = higher p q low low' turn numbered less in
              absurd (omega (arith, more, e))
          | inr most ↦
              elim (cases_lt q p) [
                | inl less ↦
                    let more = higher q p low' low turn' (sym numbered) less in
                    absurd (omega (arith, more, e))
                | inr most' ↦ omega (arith, most, most')
              ]
        ];
  }
