-- Blocks of a loop with an edge out of it.
use Rattle.std.proofs.Common.{◌≡◌, ◌⊎◌, ℕ, ◌+◌, ◌<◌, List, take, get_or, length, Contains, ap, sym, subst, inl, inr}
use Rattle.std.proofs.Common.{arith}
use Rattle.std.proofs.lemmas.Bool.{cases_eq}
use Rattle.std.proofs.lemmas.List.{take_more}
use Rattle.std.proofs.lemmas.List.Elements.{Contains-push_cases}
use Rattle.scev_base.specs.declared.ids.BlockId.{BlockId}
use Rattle.ir_model.specs.declared.function.Function.{Function}
use Rattle.flow_graph.specs.Graph.{IsMarked}
use Rattle.flow_graph.specs.EdgeLists.{block_id, succs_of}
use Rattle.flow_graph.proofs.EdgeLemmas.{succs_edge}
use Rattle.natural_loops.specs.Sides.{IsExit}
use Rattle.natural_loops.specs.Table.{RegionParts, loop_of}
use Rattle.natural_loops.proofs.Marks.{marked_contains}

-- one of some blocks isn't in the loop
abbrev pub HasLeft : RegionParts → List BlockId → Type 0
HasLeft region blocks = (b : BlockId) × Contains blocks b × (IsMarked region.blocks b.0 → ⊥)

module _ (f : Function) (region : RegionParts) (n : ℕ) (blocks : List BlockId) (are : blocks ≡ succs_of f n) where
  pub exit_from : IsMarked region.blocks n → HasLeft region blocks → IsExit f (loop_of region) n
  exit_from marked left =
      let there : Contains (succs_of f n) left.0 = subst (λ (xs : List BlockId). Contains xs left.0) are left.1 in (
        (marked_contains region.blocks n).1 marked,
        left.0.0,
        (succs_edge f n left.0.0).0 there,
        (λ inside. left.2 ((marked_contains region.blocks left.0.0).0 inside)),
      )

  pub exit_marked : IsExit f (loop_of region) n → IsMarked region.blocks n
  exit_marked exit = (marked_contains region.blocks n).0 exit.0

  pub exit_leaves : IsExit f (loop_of region) n → HasLeft region blocks
  exit_leaves exit = (
    block_id exit.1,
    subst (λ (xs : List BlockId). Contains xs (block_id exit.1)) (sym are) ((succs_edge f n exit.1).1 exit.2),
    (λ marked. exit.3 ((marked_contains region.blocks exit.1).1 marked)),
  )

-- a number below the next one
pub below_cases : (n k : ℕ) → k < n + 1 → (k < n) ⊎ (k ≡ n)
below_cases n k less =
    elim (cases_eq k n) [ inl is ↦ inr is | inr apart ↦ inl (omega (arith, less, apart)) ]

-- a block among one more of some blocks
pub seen_cases : (blocks : List BlockId) (i : ℕ) (d : BlockId) → i < length blocks → (k : ℕ)
    → Contains (take (i + 1) blocks) (block_id k) → Contains (take i blocks) (block_id k) ⊎ (k ≡ (get_or blocks i d).0)
seen_cases blocks i d within k there =
    let pushed = subst (λ (xs : List BlockId). Contains xs (block_id k)) (take_more blocks i d within) there in
    elim (Contains-push_cases (take i blocks) (get_or blocks i d) (block_id k) pushed) [
      | inl before ↦ inl before
      | inr is ↦ inr (sym (ap (λ (id : BlockId). id.0) is))
    ]
