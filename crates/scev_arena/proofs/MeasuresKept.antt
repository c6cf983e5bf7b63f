-- The measures that an arena keeps are those of what its places hold.
use Rattle.std.proofs.Common.{◌≡◌, ℕ, zero, suc, Bool, true, false, ◌||◌, if◌then◌else◌}
use Rattle.std.proofs.Common.{List, [], ◌∷◌, ◌++◌, length, map, Some, option_map, slice_get, refl, sym, ap, ◌∙◌, subst}
use Rattle.std.specs.List.{list_any}
use Rattle.std.specs.Map.{keys_of, values_of}
use Rattle.std.proofs.lemmas.List.{length-map, map-append}
use Rattle.std.proofs.lemmas.Option.{slice_get-map}
use Rattle.indexmap.specs.IndexMap.{insert_entry}
use Rattle.scev_arena.specs.declared.measure.Measure.{Measure}
use Rattle.scev_arena.specs.declared.node.Node.{Node}
use Rattle.scev_arena.specs.Nodes.{same_node}
use Rattle.scev_arena.specs.NodeLaws.{same_node_decides}
use Rattle.scev_arena.specs.Meaning.{node_meant, meanings}
use Rattle.scev_arena.specs.Standing.{MayStand, IsArena}
use Rattle.scev_arena.specs.Measures.{meant_measure, measures_of, node_measure, IsWithin}
use Rattle.scev_arena.proofs.PlacesStay.{one_more, as_many}
use Rattle.scev_arena.proofs.WellMade.{well_made}
use Rattle.scev_arena.proofs.NodesMeasured.{node_measured, node_within}
use Rattle.scev_arena.proofs.Interning.{with_node, behind}

-- the measure of what a node means among these
abbrev measure_in : List Node → Node → Measure
measure_in nodes n = meant_measure (node_meant (meanings nodes) n)

-- A node that may stand names places that have measures.
pub names_measured : (nodes : List Node) (measures : List Measure) (n : Node) → measures ≡ measures_of nodes
    → MayStand nodes n
    → IsWithin (length measures) n
names_measured nodes measures n kept may =
    let many : length measures ≡ length nodes =
    ap length kept ∙ length-map (meanings nodes) meant_measure ∙ as_many nodes in
    subst (λ k. IsWithin k n) (sym many) (node_within nodes n may)

-- Where a function tells the measure of each node, one more with its measure stands behind all, or is there already.
inserted : (measure : Node → Measure) (n : Node) (entries : List (Node × Measure))
    → ((i : ℕ) (e : Node × Measure) → slice_get entries i ≡ Some e → e.1 ≡ measure e.0)
    → insert_entry same_node entries n (measure n)
    ≡ (if list_any (same_node n) (keys_of entries) then entries else entries ++ (n, measure n) ∷ [])
inserted measure n [] told = refl
inserted measure n (e ∷ es) told =
    by_test (same_node n e.0) refl (inserted measure n es (λ i. told (suc i)))
  where
    by_test : (b : Bool) → same_node n e.0 ≡ b
        → insert_entry same_node es n (measure n)
        ≡ (if list_any (same_node n) (keys_of es) then es else es ++ (n, measure n) ∷ [])
        → (if b then (e.0, measure n) ∷ es else e ∷ insert_entry same_node es n (measure n))
        ≡ (if b || list_any (same_node n) (keys_of es) then e ∷ es else e ∷ (es ++ (n, measure n) ∷ []))
    by_test true same later =
        ap (λ m. (e.0, m) ∷ es) (ap measure ((same_node_decides n e.0).0 same) ∙ sym (told zero e refl))
    by_test false other later =
        ap (λ l. e ∷ l) later
        ∙ behind (list_any (same_node n) (keys_of es)) e es (es ++ (n, measure n) ∷ [])

module _ (entries : List (Node × Measure)) (arena : IsArena (keys_of entries))
    (kept : values_of entries ≡ measures_of (keys_of entries)) where
  -- each node has the measure of what it means among all
  each_told : (i : ℕ) (e : Node × Measure) → slice_get entries i ≡ Some e → e.1 ≡ measure_in (keys_of entries) e.0
  each_told i e there =
      let keys = keys_of entries in
      let key : slice_get keys i ≡ Some e.0 =
      slice_get-map (λ x. x.0) entries i ∙ ap (option_map (λ x. x.0)) there in
      let value : slice_get (measures_of keys) i ≡ Some e.1 =
      ap (λ l. slice_get l i) (sym kept) ∙ slice_get-map (λ x. x.1) entries i ∙ ap (option_map (λ x. x.1)) there in
      let told : slice_get (measures_of keys) i ≡ Some (measure_in keys e.0) =
      slice_get-map meant_measure (meanings keys) i
      ∙ ap (option_map meant_measure) ((well_made keys arena).holds i e.0 key) in
      let same : Some e.1 ≡ Some (measure_in keys e.0) = sym value ∙ told in
      cc same

  module _ (new : List (Node × Measure)) (n : Node) (m : Measure) (may : MayStand (keys_of entries) n)
      (told : m ≡ node_measure (values_of entries) n) (e : new ≡ insert_entry same_node entries n m) where
    measured : m ≡ measure_in (keys_of entries) n
    measured =
        told
        ∙ ap (λ l. node_measure l n) kept
        ∙ node_measured (keys_of entries) (well_made (keys_of entries) arena) n may

    grown_entries : new
        ≡ (if list_any (same_node n) (keys_of entries) then entries
        else entries ++ (n, measure_in (keys_of entries) n) ∷ [])
    grown_entries =
        e
        ∙ ap (insert_entry same_node entries n) measured
        ∙ inserted (measure_in (keys_of entries)) n entries each_told

    -- the keys are the nodes with one that is new
    pub keys_grown : keys_of new ≡ with_node (keys_of entries) n
    keys_grown = ap keys_of grown_entries ∙ by_test (list_any (same_node n) (keys_of entries))
      where
        by_test : (b : Bool)
            → keys_of (if b then entries else entries ++ (n, measure_in (keys_of entries) n) ∷ [])
            ≡ (if b then keys_of entries else keys_of entries ++ n ∷ [])
        by_test true = refl
        by_test false = map-append (λ x. x.0) entries ((n, measure_in (keys_of entries) n) ∷ [])

    -- The measures stay those of what the places hold.
    pub measures_kept : values_of new ≡ measures_of (keys_of new)
    measures_kept =
        ap values_of grown_entries
        ∙ by_test (list_any (same_node n) (keys_of entries))
        ∙ ap measures_of (sym keys_grown)
      where
        by_test : (b : Bool)
            → values_of (if b then entries else entries ++ (n, measure_in (keys_of entries) n) ∷ [])
            ≡ measures_of (if b then keys_of entries else keys_of entries ++ n ∷ [])
        by_test true = kept
        by_test false =
            let keys = keys_of entries in
            map-append (λ x. x.1) entries ((n, measure_in keys n) ∷ [])
            ∙ ap (λ l. l ++ measure_in keys n ∷ []) kept
            ∙ sym (ap (map meant_measure) (one_more keys n)
            ∙ map-append meant_measure (meanings keys) (node_meant (meanings keys) n ∷ []))
