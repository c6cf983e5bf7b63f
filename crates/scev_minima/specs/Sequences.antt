-- Lists from the last to the first.
use Rattle.std.specs.Prelude.{ℕ, List, [], ◌∷◌, ◌++◌, Option, None}
use Rattle.scev_tree.specs.Tree.{Tree}
use Rattle.scev_forms.specs.Atoms.{number_of}

abbrev pub reversed : {A : Type 0} → List A → List A
reversed [] = []
reversed (x ∷ xs) = reversed xs ++ x ∷ []

-- the number that the first of some trees is, if it is one
abbrev pub first_number : List Tree → Option ℕ
first_number [] = None
first_number (tree ∷ trees) = number_of tree
