-- Marks of the blocks with an edge back to a block.
use Rattle.std.proofs.Common.{◌≡◌, ◌≢◌, ◌↔◌, ◌==◌, ℕ, ◌<◌, Bool, true, false, List, [], ◌∷◌, ◌++◌, length, get_or, set}
use Rattle.std.proofs.Common.{replicate, Some, AllPairs, Contains, eqb-true, sym, ap, ◌∙◌, subst, inl, inr, arith}
use Rattle.std.proofs.Common.{length-set}
use Rattle.std.proofs.lemmas.List.{length-replicate}
use Rattle.std.proofs.lemmas.List.Elements.{All-contains, Contains-get_or, Contains-push_cases}
use Rattle.scev_base.specs.declared.ids.BlockId.{BlockId}
use Rattle.ir_model.specs.declared.function.Block.{Block}
use Rattle.ir_model.specs.declared.function.Function.{Function}
use Rattle.ir_model.specs.Shapes.{block_of, defined_blocks}
use Rattle.ir_model.specs.Walks.{Edge, Reachable}
use Rattle.ir_model.specs.WellMade.{HasIds}
use Rattle.flow_graph.specs.Graph.{IsMarked}
use Rattle.flow_graph.specs.EdgeLists.{block_id, preds_of}
use Rattle.flow_graph.proofs.ArcLemmas.{find_is}
use Rattle.flow_graph.proofs.EdgeLemmas.{preds_edge}
use Rattle.flow_graph.proofs.IdLemmas.{IsLabelledBlock, labelled}
use Rattle.flow_graph.proofs.SearchLemmas.{set_marked, set_keeps, set_cases, no_mark}
use Rattle.ssa_check.specs.Checked.{Dominates}
use Rattle.natural_loops.specs.Backward.{IsBackEdge}

-- a block of this number has a label
pub block_labelled : (f : Function) → HasIds f → (b : ℕ) (block : Block) → block_of f b ≡ Some block
    → b < length f.labels
block_labelled f ids b block found =
    let there = find_is (λ block. block.id.0 == b) f.blocks block found in
    let within = (All-contains (IsLabelledBlock f) f.blocks block (labelled f ids) there.0).0 in
    let same : block.id.0 ≡ b = eqb-true block.id.0 b there.1 in
    omega (arith, within, same)

-- an edge leads from a block with a label
pub edge_labelled : (f : Function) → HasIds f → (a b : ℕ) → Edge f a b → a < length f.labels
edge_labelled f ids a b edge = block_labelled f ids a edge.0 edge.1

-- each of the blocks that lead to a block has an edge there
pub edge_of_pred : (f : Function) → AllPairs (λ a b. a ≢ b) (defined_blocks f) → (h : ℕ) (blocks : List BlockId) (i : ℕ)
    (d : BlockId) → blocks ≡ preds_of f h → i < length blocks → Edge f (get_or blocks i d).0 h
edge_of_pred f once h blocks i d are within =
    let from = get_or blocks i d in
    (preds_edge f once from.0 h).0
    (subst (λ (ids : List BlockId). Contains ids from) are (Contains-get_or blocks i d within))

module _ (f : Function) (h : ℕ) where
  -- The marks are of blocks with an edge back, and each of these has one that is among some blocks.
  pub record AreLatchMarks (blocks : List BlockId) (marks : List Bool) : Type 0 where
    pub size : length marks ≡ length f.labels
    pub only : (b : ℕ) → IsMarked marks b → IsBackEdge f b h
    pub done : (b : ℕ) → Contains blocks (block_id b) → Reachable f b → Dominates f h b → IsMarked marks b

  pub AreLatchMarks_none : AreLatchMarks [] (replicate (length f.labels) false)
  AreLatchMarks_none = record {
    size = length-replicate (length f.labels) false;
    only = λ b marked. absurd (no_mark (length f.labels) b marked);
    done = λ b there reachable dominates. absurd (omega (arith, there.1));
  }

  -- a block with no edge back
  pub AreLatchMarks_skip : (blocks : List BlockId) (marks : List Bool) (from : BlockId)
      → (Reachable f from.0 → Dominates f h from.0 → ⊥) → AreLatchMarks blocks marks
      → AreLatchMarks (blocks ++ from ∷ []) marks
  AreLatchMarks_skip blocks marks from none are = record {
    size = are.size;
    only = are.only;
    done = λ b there reachable dominates.
        elim (Contains-push_cases blocks from (block_id b) there) [
          | inl before ↦ are.done b before reachable dominates
          | inr is ↦
              let same : b ≡ from.0 = sym (ap (λ (id : BlockId). id.0) is) in
              absurd (none (subst (Reachable f) same reachable) (subst (Dominates f h) same dominates))
        ];
  }

  -- a block with one
  pub AreLatchMarks_more : (blocks : List BlockId) (marks : List Bool) (from : BlockId) → from.0 < length f.labels
      → IsBackEdge f from.0 h → AreLatchMarks blocks marks
      → AreLatchMarks (blocks ++ from ∷ []) (set marks from.0 true)
  AreLatchMarks_more blocks marks from within back are = record {
    size = length-set marks from.0 true ∙ are.size;
    only = λ b marked.
        elim (set_cases marks from.0 b marked) [
          | inl before ↦ are.only b before
          | inr is ↦ subst (λ (k : ℕ). IsBackEdge f k h) is back
        ];
    done = λ b there reachable dominates.
        elim (Contains-push_cases blocks from (block_id b) there) [
          | inl before ↦ set_keeps marks from.0 b (are.done b before reachable dominates)
          | inr is ↦
              let same : from.0 ≡ b = ap (λ (id : BlockId). id.0) is in
              subst (IsMarked (set marks from.0 true)) same
              (set_marked marks from.0 (omega (arith, within, are.size)))
        ];
  }

  -- all blocks that lead there
  pub AreLatchMarks_all : AllPairs (λ a b. a ≢ b) (defined_blocks f) → (marks : List Bool)
      → AreLatchMarks (preds_of f h) marks → (b : ℕ) → IsMarked marks b ↔ IsBackEdge f b h
  AreLatchMarks_all once marks are b = (
    are.only b,
    (λ back. are.done b ((preds_edge f once b h).1 back.edge) back.reachable back.dominated),
  )
