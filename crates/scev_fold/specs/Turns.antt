-- What is answered of a value at a turn.
use Rattle.std.specs.Prelude.{◌≡◌, ℕ, List, Option, Some, None, Ok, Err}
use Rattle.std.specs.declared.result.Result.{Result}
use Rattle.scev_base.specs.declared.ids.ExprId.{ExprId}
use Rattle.scev_tree.specs.Tree.{Tree, Factors, constant}
use Rattle.scev_tree.specs.Value.{tree_value}
use Rattle.scev_arena.specs.declared.node.Node.{Node}
use Rattle.scev_arena.specs.Meaning.{tree_of}
use Rattle.scev_forms.specs.Outcome.{Outcome, next}
use Rattle.scev_forms.specs.Sums.{tree_sum}
use Rattle.scev_forms.specs.Turns.{factors_at_turn}
use Rattle.scev_sums.specs.declared.error.FoldError.{FoldError}
use Rattle.scev_sums.specs.declared.error.FoldError.TheVariants.{OutOfMemory}
use Rattle.scev_sums.specs.Answers.{Tells}

-- something stands for what is formed
abbrev pub IsSome : {A B : Type 0} → (A → B → Type 0) → Option A → B → Type 0
IsSome StandsFor (Some a) b = StandsFor a b
IsSome StandsFor None b = ⊥

-- Where something is to be formed, what is answered is that or the limit that is met; where nothing is, it is None. It
-- may also be that no memory is found.
abbrev pub TellsIfAny : {A B : Type 0} → (A → B → Type 0) → Option (Outcome B) → Result (Option A) FoldError → Type 0
TellsIfAny StandsFor (Some outcome) result = Tells (IsSome StandsFor) outcome result
TellsIfAny StandsFor None (Ok found) = found ≡ None
TellsIfAny StandsFor None (Err error) = error ≡ OutOfMemory

-- Whenever the count has the turn of the loop as its value, and the tree at a place has a value, the tree at another
-- one has it.
abbrev pub HasValueAtTurn : List Node → List Node → ℕ → ExprId → ExprId → ExprId → Type 0
HasValueAtTurn old new l count id out = (held : ℕ → Option ℕ) (turns : ℕ → ℕ) (n : ℕ)
    → tree_value held turns (tree_of old count) ≡ Some (turns l)
    → tree_value held turns (tree_of old id) ≡ Some n
    → tree_value held turns (tree_of new out) ≡ Some n

-- the sum so far, with one more monomial
abbrev pub monomial_at_turn : List (Option ℕ) → ℕ → Tree → ℕ → Factors → ℕ → Tree → Outcome Tree
monomial_at_turn parents l count w factors n sum =
    next (factors_at_turn parents l count w factors (constant w n)) (λ product. tree_sum parents w sum product)
