-- What a call answers of what is formed.
use Rattle.std.specs.Prelude.{◌≡◌, ℕ, List, [], ◌∷◌, ◌++◌, map, Ok, Err}
use Rattle.std.specs.declared.result.Result.{Result}
use Rattle.scev_base.specs.declared.ids.ExprId.{ExprId}
use Rattle.scev_tree.specs.Tree.{Tree, width_of}
use Rattle.scev_arena.specs.declared.limit.Limit.TheVariants as limit
use Rattle.scev_arena.specs.declared.node.Node.{Node}
use Rattle.scev_arena.specs.Meaning.{tree_of}
use Rattle.scev_arena.specs.Standing.{IsTreeAt}
use Rattle.scev_forms.specs.Outcome.{Outcome, Done, Refused}
use Rattle.scev_sums.specs.declared.error.FoldError.{FoldError}
use Rattle.scev_sums.specs.declared.error.FoldError.TheVariants.{TooWide, TooHigh, TooDeep, OutOfMemory}

-- the arena has more nodes behind those that it had
abbrev pub GoesOn : List Node → List Node → Type 0
GoesOn old new = (more : List Node) × (new ≡ old ++ more)

-- the place holds a tree of w bits
abbrev pub IsTreeOfAt : List Node → ℕ → ExprId → Type 0
IsTreeOfAt nodes w id = IsTreeAt nodes id × (width_of (tree_of nodes id) ≡ w)

-- the place holds this tree, of w bits
abbrev pub IsAt : List Node → ℕ → ExprId → Tree → Type 0
IsAt nodes w id tree = IsTreeOfAt nodes w id × (tree_of nodes id ≡ tree)

abbrev pub AreTreesOfAt : List Node → ℕ → List ExprId → Type 0
AreTreesOfAt nodes w [] = Unit {0}
AreTreesOfAt nodes w (id ∷ ids) = IsTreeOfAt nodes w id × AreTreesOfAt nodes w ids

-- the places hold these trees, each of w bits
abbrev pub AreAt : List Node → ℕ → List ExprId → List Tree → Type 0
AreAt nodes w ids trees = AreTreesOfAt nodes w ids × (map (tree_of nodes) ids ≡ trees)

-- the trees at some places
abbrev pub trees_at : List Node → List ExprId → List Tree
trees_at nodes ids = map (tree_of nodes) ids

-- each item of a list is such
abbrev pub AreAll : {A : Type 0} → (A → Type 0) → List A → Type 0
AreAll Is [] = Unit {0}
AreAll Is (x ∷ xs) = Is x × AreAll Is xs

-- What is answered is what is formed, where it stands for that, or the limit that is met; it may also be that no memory is
-- found.
abbrev pub Tells : {A B : Type 0} → (A → B → Type 0) → Outcome B → Result A FoldError → Type 0
Tells {A} {B} StandsFor outcome (Ok a) = (b : B) × (outcome ≡ Done b) × StandsFor a b
Tells StandsFor outcome (Err TooWide) = outcome ≡ Refused limit.TooWide
Tells StandsFor outcome (Err TooHigh) = outcome ≡ Refused limit.TooHigh
Tells StandsFor outcome (Err TooDeep) = outcome ≡ Refused limit.TooDeep
Tells StandsFor outcome (Err OutOfMemory) = Unit {0}
