-- Walks between whose ends something holds of each block.
use Rattle.std.proofs.Common.{ℕ, List, [], ◌∷◌, ◌++◌, All}
use Rattle.std.proofs.lemmas.List.Elements.{All-nil, All-cons, All-head, All-tail, All-append}
use Rattle.ir_model.specs.declared.function.Function.{Function}
use Rattle.ir_model.specs.Walks.{Edge, Walk}
use Rattle.flow_graph.proofs.WalkPaths.{walk_join}

module _ (f : Function) (P : ℕ → Type 0) where
  -- A walk of one or more edges leads from a block to another one, and P holds of each block between them.
  abbrev pub Inside : ℕ → ℕ → Type 0
  Inside a b = (between : List ℕ) × All P between × Walk f a between b

  -- an edge alone
  pub inside_edge : (a b : ℕ) → Edge f a b → Inside a b
  inside_edge a b edge = ([], All-nil P, edge)

  -- one such walk behind another one, where P holds in the middle
  pub inside_join : (a b c : ℕ) → P b → Inside a b → Inside b c → Inside a c
  inside_join a b c middle first second = (
    first.0 ++ b ∷ second.0,
    All-append P first.0 (b ∷ second.0) first.1 (All-cons P b second.0 middle second.1),
    walk_join f a b c first.0 second.0 first.2 second.2,
  )

  -- the last edge of such a walk, where P holds of the first block
  pub last_edge : (a b : ℕ) (between : List ℕ) → P a → All P between → Walk f a between b → (c : ℕ) × P c × Edge f c b
  last_edge a b [] here inside edge = (a, here, edge)
  last_edge a b (c ∷ between) here inside walk =
      last_edge c b between (All-head P c between inside) (All-tail P c between inside) walk.1
