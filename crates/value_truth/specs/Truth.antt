-- When an expression is true of a value.
use Rattle.std.specs.Prelude.{◌≡◌, ◌⊎◌, ℕ, List, [], ◌∷◌, ◌++◌, Option, Some, None}
use Rattle.ir_model.specs.declared.function.Function.{Function}
use Rattle.ir_meaning.specs.declared.value.Value.{Value}
use Rattle.ir_meaning.specs.declared.value.Value.TheVariants as value
use Rattle.ir_meaning.specs.declared.choice.Choice.{Choice}
use Rattle.ir_meaning.specs.State.{State}
use Rattle.ir_meaning.specs.Run.{Run, last, IsFresh}
use Rattle.loop_regions.specs.Loops.{Loop}
use Rattle.loop_regions.specs.Turns.{turns}
use Rattle.scev_tree.specs.Tree.{Tree}
use Rattle.scev_tree.specs.Value.{tree_value}
use Rattle.value_truth.specs.Available.{IsAvailable}

-- What is held is poison, or the number that is a value.
abbrev pub Denotes : Option Value → Option ℕ → Type 0
Denotes held x = (held ≡ Some value.Poison) ⊎ ((n : ℕ) × (held ≡ Some (value.Number n)) × (x ≡ Some n))

-- the number that a register holds, none where it holds none
abbrev pub number_of : Option Value → Option ℕ
number_of (Some (value.Number n)) = Some n
number_of _ = None

-- the value of a tree at a state: with the registers and the turns of the loops as they are
abbrev pub value_at : List Loop → State → Tree → Option ℕ
value_at loops s tree = tree_value (λ v. number_of (s.registers v)) (turns loops s.trail) tree

-- The register holds poison, or the number that is the value of the tree.
abbrev pub Holds : List Loop → State → ℕ → Tree → Type 0
Holds loops s v tree = Denotes (s.registers v) (value_at loops s tree)

-- The expression is true of the register: in every run of the function, each time just after the register is defined,
-- it holds poison or the expression's value at that moment.
abbrev pub IsTrueOf : Function → List Loop → ℕ → Tree → Type 0
IsTrueOf f loops v tree = (r : Run f) → IsFresh f (last f r) v → Holds loops (last f r) v tree

-- The expression is always true of the register: in every run, wherever the register is available.
abbrev pub IsAlwaysTrueOf : Function → List Loop → ℕ → Tree → Type 0
IsAlwaysTrueOf f loops v tree =
    (r : Run f) → IsAvailable f v (last f r).block (last f r).place → Holds loops (last f r) v tree

-- a run that is one step shorter
abbrev pub Precedes : (f : Function) → Run f → Run f → Type 0
Precedes f earlier r = (choice : Choice) × (r.args ≡ earlier.args) × (r.memory ≡ earlier.memory)
    × (r.choices ≡ earlier.choices ++ choice ∷ [])

-- It is true just after the register is defined, if it was before, wherever the register was available then.
abbrev pub IsTrueAnew : Function → List Loop → ℕ → Tree → Type 0
IsTrueAnew f loops v tree = (r : Run f) → IsFresh f (last f r) v
    → ((earlier : Run f) → Precedes f earlier r → IsAvailable f v (last f earlier).block (last f earlier).place
    → Holds loops (last f earlier) v tree)
    → Holds loops (last f r) v tree
