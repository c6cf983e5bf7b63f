-- What a reading of an arena says.
use Rattle.std.specs.Cmp.Lexicographic.{slice_cmp}
use Rattle.std.specs.Ordering.{nat_cmp}
use Rattle.std.specs.declared.cmp.Ordering.{Ordering}
use Rattle.std.specs.Prelude.{ℕ, suc, ◌<◌, Bool, false, List, [], ◌∷◌, Option, Some, None}
use Rattle.scev_base.specs.declared.ids.ExprId.{ExprId}
use Rattle.scev_base.specs.declared.ids.LoopId.{LoopId}
use Rattle.scev_tree.specs.declared.kind.Kind.{Kind}
use Rattle.scev_tree.specs.declared.kind.Kind.TheVariants as kind
use Rattle.scev_tree.specs.Tree.{Tree, Terms, Factors, Atom, Parts, atom}
use Rattle.scev_tree.specs.Order.{count_parts, parts_code}
use Rattle.poly_terms.specs.declared.term.Term.{Term}
use Rattle.scev_arena.specs.declared.node.Node.{Node}
use Rattle.scev_arena.specs.Limits.{is_in, is_in_terms, is_in_factors, is_in_parts}
use Rattle.scev_arena.specs.Standing.{IsAtomAt}
use Rattle.scev_forms.specs.Gather.{deeper_of, moves}

-- ---- places

-- what stands there is an atom, of whatever width
abbrev pub IsSomeAtomAt : List Node → ExprId → Type 0
IsSomeAtomAt nodes id = (w : ℕ) × IsAtomAt nodes w id

-- the places are below this one
abbrev pub AreBelow : ℕ → List ExprId → Type 0
AreBelow n [] = Unit {0}
AreBelow n (id ∷ ids) = (id.0 < n) × AreBelow n ids

-- so are those of the factors of each term
abbrev pub AreOverBelow : ℕ → List Term → Type 0
AreOverBelow n [] = Unit {0}
AreOverBelow n (t ∷ ts) = AreBelow n t.ids × AreOverBelow n ts

-- ---- loops

-- the loop of a recurrence
abbrev pub loop_of_kind : Kind → Option ℕ
loop_of_kind (kind.Rec loop) = Some loop.0
loop_of_kind _ = None

abbrev pub loop_of_atom : Atom → Option ℕ
loop_of_atom (atom kind w parts) = loop_of_kind kind

-- the deeper one of two loops, of which there may be none
abbrev pub deepest_with : List (Option ℕ) → Option ℕ → Option ℕ → Option ℕ
deepest_with parents None behind = behind
deepest_with parents (Some l) behind = Some (deeper_of parents l behind)

-- the deepest of some loops and of one behind them, which there may be
abbrev pub deepest_before : List (Option ℕ) → List ℕ → Option ℕ → Option ℕ
deepest_before parents [] behind = behind
deepest_before parents (l ∷ loops) behind = deepest_with parents (Some l) (deepest_before parents loops behind)

-- ---- what changes while a loop runs

abbrev pub tree_moves : List (Option ℕ) → ℕ → Tree → Bool
tree_moves parents l tree = is_in (λ terms. false) (moves parents l) tree

abbrev pub term_moves : List (Option ℕ) → ℕ → Terms → Bool
term_moves parents l terms = is_in_terms (λ terms. false) (moves parents l) terms

abbrev pub factor_moves : List (Option ℕ) → ℕ → Factors → Bool
factor_moves parents l factors = is_in_factors (λ terms. false) (moves parents l) factors

abbrev pub part_moves : List (Option ℕ) → ℕ → Parts → Bool
part_moves parents l parts = is_in_parts (λ terms. false) (moves parents l) parts

-- ---- the order of expressions

-- which of two codes is lower, as `lower` tells
abbrev pub code_order : List ℕ → List ℕ → Ordering
code_order a b = slice_cmp nat_cmp a b

-- the number of the loop that a register is defined in, 0 where there is none
abbrev pub home_number : Option LoopId → ℕ
home_number None = 0
home_number (Some l) = suc l.0

-- the code of parts behind their count
abbrev pub counted_code : Parts → List ℕ
counted_code parts = count_parts parts ∷ parts_code parts
