-- What an expression that is formed stands for.
use Rattle.std.specs.Prelude.{◌≡◌, ℕ, List, [], ◌∷◌, map, Option, Some, None}
use Rattle.scev_base.specs.Iterated.{iterated}
use Rattle.scev_base.specs.declared.ids.ExprId.{ExprId}
use Rattle.scev_tree.specs.Tree.{Tree}
use Rattle.scev_tree.specs.Value.{sum, tree_value}
use Rattle.scev_arena.specs.declared.node.Node.{Node}
use Rattle.scev_arena.specs.Meaning.{tree_of}

-- a number, or none, given the numbers that registers hold and the turns of the loops
abbrev pub Value : Type 0
Value = (ℕ → Option ℕ) → (ℕ → ℕ) → Option ℕ

-- wherever there is this number, the tree at the place has it as its value
abbrev pub HasValue : List Node → Value → ExprId → Type 0
HasValue nodes value id = (held : ℕ → Option ℕ) (turns : ℕ → ℕ) (n : ℕ)
    → value held turns ≡ Some n → tree_value held turns (tree_of nodes id) ≡ Some n

-- the value of the tree at a place
abbrev pub value_at : List Node → ExprId → Value
value_at nodes id held turns = tree_value held turns (tree_of nodes id)

-- the iterated sum of the values of parts at the turn of a loop
abbrev pub iterated_values : (ℕ → Option ℕ) → (ℕ → ℕ) → ℕ → ℕ → List Tree → Option ℕ
iterated_values held turns w l [] = None
iterated_values held turns w l (first ∷ parts) =
    iterated (sum w) (turns l) (tree_value held turns first) (map (tree_value held turns) parts)

abbrev pub iterated_parts : List Node → ℕ → ℕ → List ExprId → Value
iterated_parts nodes w l ids held turns = iterated_values held turns w l (map (tree_of nodes) ids)
