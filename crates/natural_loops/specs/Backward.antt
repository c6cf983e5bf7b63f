-- Edges that lead back, and how blocks are found against the edges.
use Rattle.std.specs.Prelude.{◌≡◌, ◌≢◌, ◌↔◌, ℕ, List, Bool, All, length}
use Rattle.ir_model.specs.declared.function.Function.{Function}
use Rattle.ir_model.specs.Walks.{Edge, Walk, Reachable}
use Rattle.flow_graph.specs.Graph.{Arc, IsClosed, IsMarked}
use Rattle.ssa_check.specs.Checked.{Dominates}

-- an edge from a reachable block to a block that dominates it
pub record IsBackEdge (f : Function) (b h : ℕ) : Type 0 where
  pub reachable : Reachable f b
  pub edge : Edge f b h
  pub dominated : Dominates f h b

-- The graph has the edges from reachable blocks, each the other way round.
pub record IsBackward (f : Function) (graph : List (List ℕ)) : Type 0 where
  pub size : length graph ≡ length f.labels
  pub closed : IsClosed graph
  pub arcs : (a b : ℕ) → Arc graph b a ↔ (Reachable f a × Edge f a b)

-- The marks are of the header, and of the blocks that are found from its latches against the edges, up to the header.
pub record IsBody (f : Function) (h : ℕ) (marks : List Bool) : Type 0 where
  pub header : IsMarked marks h
  pub reachable : (b : ℕ) → IsMarked marks b → Reachable f b
  pub dominated : (b : ℕ) → IsMarked marks b → Dominates f h b
  pub led : (b : ℕ) → IsMarked marks b → b ≢ h → (between : List ℕ) × All (IsMarked marks) between × Walk f b between h
  pub closed : (a b : ℕ) → IsMarked marks b → b ≢ h → Reachable f a → Edge f a b → IsMarked marks a
  pub latches : (b : ℕ) → IsBackEdge f b h → IsMarked marks b
