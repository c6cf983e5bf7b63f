-- The measure that is kept of a tree tells the first limit that it is above.
use Rattle.std.proofs.Common.{◌≡◌, ℕ, suc, min, nat_lt, ◌||◌, ◌==◌, if◌then◌else◌, List, Some, None, ap, ◌∙◌, arith}
use Rattle.std.proofs.lemmas.Bool.Decides.{nat_tests}
use Rattle.scev_base.specs.declared.limits.TheConstants.{DEPTH, NODES}
use Rattle.scev_base.specs.declared.ids.ExprId.{ExprId}
use Rattle.scev_tree.specs.Tree.{Tree}
use Rattle.scev_tree.specs.Size.{depth, nodes}
use Rattle.scev_arena.specs.declared.limit.Limit.TheVariants.{TooWide, TooHigh, TooDeep}
use Rattle.scev_arena.specs.Limits.{is_too_wide, is_too_high, first_limit}
use Rattle.scev_arena.specs.declared.measure.Measure.{Measure}
use Rattle.scev_arena.specs.declared.node.Node.{Node}
use Rattle.scev_arena.specs.Meaning.{tree_of}
use Rattle.scev_arena.specs.Standing.{IsTreeAt, IsArena}
use Rattle.scev_arena.specs.Measures.{tree_measure, measures_of, measure_at, limit_of}
use Rattle.scev_arena.proofs.WellMade.{well_made}
use Rattle.scev_arena.proofs.NodesMeasured.{at_tree}

-- a number that counts as one above the limit is above it
above : (n k : ℕ) → (min n (suc k) == suc k) ≡ nat_lt k n
above n k = grind (arith, nat_tests)

limit_measured : (tree : Tree) → limit_of (tree_measure tree) ≡ first_limit tree
limit_measured tree =
    let deep : ((min (depth tree) (suc DEPTH) == suc DEPTH) || (min (nodes tree) (suc NODES) == suc NODES))
    ≡ (nat_lt DEPTH (depth tree) || nat_lt NODES (nodes tree)) =
    ap (λ b. b || (min (nodes tree) (suc NODES) == suc NODES)) (above (depth tree) DEPTH)
    ∙ ap (λ b. nat_lt DEPTH (depth tree) || b) (above (nodes tree) NODES) in
    ap (λ b. if is_too_wide tree then Some TooWide
    else (if is_too_high tree then Some TooHigh else (if b then Some TooDeep else None))) deep

-- the measure at the place of a tree tells the same
pub limit_at : (nodes : List Node) (measures : List Measure) (id : ExprId) → IsArena nodes
    → measures ≡ measures_of nodes
    → IsTreeAt nodes id
    → limit_of (measure_at measures id) ≡ first_limit (tree_of nodes id)
limit_at nodes measures id arena kept h =
    ap (λ l. limit_of (measure_at l id)) kept
    ∙ ap limit_of (at_tree nodes (well_made nodes arena) id h)
    ∙ limit_measured (tree_of nodes id)
