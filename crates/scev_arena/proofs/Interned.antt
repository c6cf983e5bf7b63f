-- What stands in an arena once a node is interned.
use Rattle.std.proofs.Common.{◌≡◌, ℕ, List, Some, slice_get, sym, ap, ◌∙◌, subst}
use Rattle.std.specs.List.{position_or_len}
use Rattle.std.specs.Map.{keys_of, values_of}
use Rattle.indexmap.specs.IndexMap.{insert_entry}
use Rattle.scev_arena.specs.declared.measure.Measure.{Measure}
use Rattle.scev_arena.specs.declared.node.Node.{Node}
use Rattle.scev_arena.specs.Nodes.{same_node}
use Rattle.scev_arena.specs.Standing.{MayStand, IsArena, IsGrown}
use Rattle.scev_arena.specs.Measures.{measures_of, node_measure}
use Rattle.scev_arena.proofs.Interning.{with_node, stored_node, interned_arena, interned_grows}
use Rattle.scev_arena.proofs.MeasuresKept.{keys_grown, measures_kept}

-- the node stands at the place, behind the old ones or among them, and each node has its measure
pub record IsInterned (old : List Node) (new : List (Node × Measure)) (n : Node) (place : ℕ) : Type 0 where
  pub arena : IsArena (keys_of new)
  pub measures : values_of new ≡ measures_of (keys_of new)
  pub there : slice_get (keys_of new) place ≡ Some n
  pub grows : IsGrown old n (keys_of new) (record { 0 = place })

-- a node that is inserted with its measure, at the place that the map tells
pub interned : (entries new : List (Node × Measure)) (old : List Node) (n : Node)
    (measures : List Measure) (m : Measure) (place : ℕ)
    → IsArena (keys_of entries) × (values_of entries ≡ measures_of (keys_of entries))
    → keys_of entries ≡ old
    → MayStand old n
    → measures ≡ values_of entries
    → m ≡ node_measure measures n
    → new ≡ insert_entry same_node entries n m
    → place ≡ position_or_len (same_node n) (keys_of entries)
    → IsInterned old new n place
interned entries new old n measures m place arena view may read told e first = record {
  arena = interned_arena keys (keys_of new) n grown arena.0 stands;
  measures = measures_kept entries arena.0 arena.1 new n m stands measured e;
  there = there;
  grows =
      subst (λ l. IsGrown l n (keys_of new) (record { 0 = place })) view
      (interned_grows keys (keys_of new) n (record { 0 = place }) grown there);
}
  where
    keys : List Node
    keys = keys_of entries

    stands : MayStand keys n
    stands = subst (λ l. MayStand l n) (sym view) may

    measured : m ≡ node_measure (values_of entries) n
    measured = told ∙ ap (λ l. node_measure l n) read

    grown : keys_of new ≡ with_node keys n
    grown = keys_grown entries arena.0 arena.1 new n m stands measured e

    there : slice_get (keys_of new) place ≡ Some n
    there =
        ap (slice_get (keys_of new)) first
        ∙ ap (λ l. slice_get l (position_or_len (same_node n) keys)) grown
        ∙ stored_node keys n
