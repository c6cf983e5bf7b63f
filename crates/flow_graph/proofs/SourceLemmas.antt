-- Rows of the blocks that lead to each block, made target by target and block by block.
use Rattle.std.proofs.Common.{◌≡◌, ◌==◌, ℕ, ◌<◌, Bool, true, false, cond, List, [], ◌∷◌, ◌++◌, length, get_or, set, replicate, map, filter, refl, sym, ap, ◌∙◌, inl, inr, arith, append_assoc, get_or-set_same, get_or-set_other}
use Rattle.std.proofs.lemmas.Bool.{cases_eq, cases_lt, eq-eqb, ne_eqb}
use Rattle.std.proofs.lemmas.List.{append-nil, map-append, get_or_past, get_or-replicate, length-replicate}
use Rattle.std.proofs.lemmas.List.Elements.{filter-append}
use Rattle.std.proofs.lemmas.List.Concat.{flat_map-append}
use Rattle.scev_base.specs.declared.ids.BlockId.{BlockId}
use Rattle.ir_model.specs.declared.function.Block.{Block}
use Rattle.ir_model.specs.Walks.{successors}
use Rattle.flow_graph.specs.EdgeLists.{sources_in, preds_in}

one_source : (from : BlockId) (to b : ℕ) (test : Bool) → (to == b) ≡ test
    → sources_in from (to ∷ []) b ≡ cond test (from ∷ []) []
one_source from to b true e = rw e refl
one_source from to b false e = rw e refl

sources_push : (from : BlockId) (targets : List ℕ) (to b : ℕ) (test : Bool) → (to == b) ≡ test
    → sources_in from (targets ++ to ∷ []) b ≡ sources_in from targets b ++ cond test (from ∷ []) []
sources_push from targets to b test e =
    ap (map (λ (t : ℕ). from)) (filter-append (λ t. t == b) targets (to ∷ []))
    ∙ map-append (λ (t : ℕ). from) (filter (λ t. t == b) targets) (filter (λ t. t == b) (to ∷ []))
    ∙ ap (λ (more : List BlockId). sources_in from targets b ++ more) (one_source from to b test e)

-- the row of one more target gets the block
pub source_added : (old new : List (List BlockId)) (from : BlockId) (targets : List ℕ) (to : ℕ) → to < length new
    → ((b : ℕ) → get_or new b [] ≡ get_or old b [] ++ sources_in from targets b)
    → (b : ℕ) → get_or (set new to (get_or new to [] ++ from ∷ [])) b []
    ≡ get_or old b [] ++ sources_in from (targets ++ to ∷ []) b
source_added old new from targets to within rows b =
    let row = get_or new to [] ++ from ∷ [] in
    elim (cases_eq b to) [
      | inl e ↦
          let more = sources_push from targets to to true (eq-eqb to to refl) in
          rw (e, get_or-set_same new to row [] within, rows to, more)
          (append_assoc (get_or old to []) (sources_in from targets to) (from ∷ []))
      | inr apart ↦
          let none = sources_push from targets to b false (ne_eqb to b (λ e. apart (sym e))) in
          rw (get_or-set_other new to b row [] apart, rows b, none, append-nil (sources_in from targets b)) refl
    ]

pub no_sources : (old : List (List BlockId)) (from : BlockId) (b : ℕ)
    → get_or old b [] ≡ get_or old b [] ++ sources_in from [] b
no_sources old from b = sym (append-nil (get_or old b []))

pub no_preds : (n b : ℕ) → get_or (replicate n []) b [] ≡ preds_in [] b
no_preds n b =
    elim (cases_lt b n) [
      | inl within ↦ get_or-replicate {A = List BlockId} n b [] [] within
      | inr past ↦
          get_or_past {X = List BlockId} (replicate n []) b []
          (omega (arith, length-replicate {A = List BlockId} n [], past))
    ]

-- one more block
pub preds_more : (old new : List (List BlockId)) (blocks : List Block) (block : Block) (b : ℕ)
    → get_or old b [] ≡ preds_in blocks b
    → get_or new b [] ≡ get_or old b [] ++ sources_in block.id (successors block.instrs) b
    → get_or new b [] ≡ preds_in (blocks ++ block ∷ []) b
preds_more old new blocks block b before added =
    let own = sources_in block.id (successors block.instrs) b in
    added ∙ ap (λ (xs : List BlockId). xs ++ own) before ∙ ap (λ (xs : List BlockId). preds_in blocks b ++ xs)
    (sym (append-nil own))
    ∙ sym (flat_map-append (λ (one : Block). sources_in one.id (successors one.instrs) b) blocks (block ∷ []))
