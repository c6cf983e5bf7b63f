-- When an expression is true of a register.
use Rattle.std.specs.Prelude.{◌≡◌, ◌⊎◌, ℕ, List, Option, Some, None}
use Rattle.ir_model.specs.declared.function.Function.{Function}
use Rattle.ir_meaning.specs.declared.value.Value.{Value}
use Rattle.ir_meaning.specs.declared.value.Value.TheVariants as value
use Rattle.ir_meaning.specs.State.{State}
use Rattle.ir_meaning.specs.Run.{Run, last, IsFresh}
use Rattle.loop_regions.specs.Loops.{Loop}
use Rattle.loop_regions.specs.Turns.{turns}
use Rattle.scev_tree.specs.Tree.{Tree}
use Rattle.scev_tree.specs.Value.{tree_value}

-- the number that a register holds, none where it holds none
abbrev pub number_of : Option Value → Option ℕ
number_of (Some (value.Number n)) = Some n
number_of _ = None

-- the value of a tree at a state: with the registers and the turns of the loops as they are
abbrev pub value_at : List Loop → State → Tree → Option ℕ
value_at loops s tree = tree_value (λ v. number_of (s.registers v)) (turns loops s.trail) tree

-- The register holds poison, or the number that is the value of the tree.
abbrev pub Holds : List Loop → State → ℕ → Tree → Type 0
Holds loops s v tree = (s.registers v ≡ Some value.Poison)
    ⊎ ((n : ℕ) × (s.registers v ≡ Some (value.Number n)) × (value_at loops s tree ≡ Some n))

-- The expression is true of the register: in every run of the function, each time just after the register is defined,
-- it holds poison or the expression's value at that moment.
abbrev pub IsTrueOf : Function → List Loop → ℕ → Tree → Type 0
IsTrueOf f loops v tree = (r : Run f) → IsFresh f (last f r) v → Holds loops (last f r) v tree
